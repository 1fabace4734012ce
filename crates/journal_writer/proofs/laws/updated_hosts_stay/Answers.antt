use Rattle.journal_writer.proofs.ResumeLemmas.{updated_hosts_stay}
use Rattle.journal_writer.proofs.laws.updated_hosts_stay.Goals as goal

pub returns : goal.returns
returns c = updated_hosts_stay
