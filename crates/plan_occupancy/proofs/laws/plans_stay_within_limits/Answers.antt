use Rattle.plan_occupancy.proofs.LimitLemmas.{plans_stay_within}
use Rattle.plan_occupancy.proofs.laws.plans_stay_within_limits.Goals as goal

pub returns : goal.returns
returns c = plans_stay_within
