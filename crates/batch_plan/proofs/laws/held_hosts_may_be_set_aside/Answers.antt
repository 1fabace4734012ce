use Rattle.batch_plan.proofs.PlanLaws.{held_may_be_set_aside}
use Rattle.batch_plan.proofs.laws.held_hosts_may_be_set_aside.Goals as goal

pub returns : goal.returns
returns c = held_may_be_set_aside
