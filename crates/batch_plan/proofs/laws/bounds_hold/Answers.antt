use Rattle.batch_plan.proofs.LeastLemmas.{bound_holds}
use Rattle.batch_plan.proofs.laws.bounds_hold.Goals as goal

pub returns : goal.returns
returns c groups statuses cap bound count forces batches plan =
    bound_holds groups statuses cap batches plan bound count forces
