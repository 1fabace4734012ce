use Rattle.plan_occupancy.proofs.LimitLemmas.{courses_stay_within}
use Rattle.plan_occupancy.proofs.laws.courses_stay_within_limits.Goals as goal

pub returns : goal.returns
returns c = courses_stay_within
