use Rattle.journal_writer.proofs.LossLemmas.{nothing_is_lost}
use Rattle.journal_writer.proofs.laws.nothing_is_lost.Goals as goal

pub returns : goal.returns
returns c = nothing_is_lost
