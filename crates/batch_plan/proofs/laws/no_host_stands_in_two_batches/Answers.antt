use Rattle.batch_plan.proofs.PlanLaws.{stands_in_one}
use Rattle.batch_plan.proofs.laws.no_host_stands_in_two_batches.Goals as goal

pub returns : goal.returns
returns c = stands_in_one
