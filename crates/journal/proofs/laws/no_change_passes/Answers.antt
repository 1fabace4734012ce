use Rattle.journal.proofs.ChangedLemmas.{no_change_passes}
use Rattle.journal.proofs.laws.no_change_passes.Goals as goal

pub returns : goal.returns
returns c = no_change_passes
