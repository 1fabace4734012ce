use Rattle.rehearse.proofs.StackLemmas.{undone_is_before}
use Rattle.rehearse.proofs.rehearsal_laws.an_undone_advance_leaves_nothing.Goals as goal

pub returns : goal.returns
returns c = λ named old new back advanced undone. undone_is_before old new back advanced.stage undone.stage advanced.grown undone.shrunk
