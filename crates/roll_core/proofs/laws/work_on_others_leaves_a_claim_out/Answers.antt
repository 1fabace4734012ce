use Rattle.roll_core.proofs.OutLaws.{claims_leave, reports_leave}
use Rattle.roll_core.proofs.laws.work_on_others_leaves_a_claim_out.Goals as goal

pub returns-clause-claims : goal.returns-clause-claims
returns-clause-claims c = claims_leave

pub returns-clause-reports : goal.returns-clause-reports
returns-clause-reports c = reports_leave
