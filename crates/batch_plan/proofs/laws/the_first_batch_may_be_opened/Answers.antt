use Rattle.batch_plan.proofs.PlanLaws.{first_may_be_opened}
use Rattle.batch_plan.proofs.laws.the_first_batch_may_be_opened.Goals as goal

pub returns : goal.returns
returns c = first_may_be_opened
