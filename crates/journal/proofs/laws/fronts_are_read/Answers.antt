use Rattle.journal.proofs.FrontLemmas.{fronts_are_read}
use Rattle.journal.proofs.laws.fronts_are_read.Goals as goal

pub returns : goal.returns
returns c = fronts_are_read
