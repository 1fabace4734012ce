use Rattle.journal_writer.proofs.ResumeLemmas.{resumes_count_who_is_down}
use Rattle.journal_writer.proofs.laws.resumes_count_who_is_down.Goals as goal

pub returns : goal.returns
returns c = resumes_count_who_is_down
