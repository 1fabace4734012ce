use Rattle.rehearse.proofs.LeadLemmas.{undone_session_is_opening}
use Rattle.rehearse.proofs.laws.undoing_all_leads_back.Goals as goal

pub returns : goal.returns
returns c = undone_session_is_opening
