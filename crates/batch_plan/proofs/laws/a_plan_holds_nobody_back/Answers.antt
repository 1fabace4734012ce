use Rattle.batch_plan.proofs.PlanLaws.{plans_hold_nobody}
use Rattle.batch_plan.proofs.laws.a_plan_holds_nobody_back.Goals as goal

pub returns : goal.returns
returns c = plans_hold_nobody
