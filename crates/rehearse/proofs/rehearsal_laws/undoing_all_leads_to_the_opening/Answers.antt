use Rattle.rehearse.proofs.UndoLemmas.{undone_all_is_opening}
use Rattle.rehearse.proofs.rehearsal_laws.undoing_all_leads_to_the_opening.Goals as goal

pub returns : goal.returns
returns c = undone_all_is_opening
