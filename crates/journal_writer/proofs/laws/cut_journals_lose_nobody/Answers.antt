use Rattle.journal_writer.proofs.LossLemmas.{cut_journals_lose_nobody}
use Rattle.journal_writer.proofs.laws.cut_journals_lose_nobody.Goals as goal

pub returns : goal.returns
returns c = cut_journals_lose_nobody
