use Rattle.plan_occupancy.proofs.OneTextLemmas.{one_surveyed_plan}
use Rattle.plan_occupancy.proofs.laws.one_surveyed_plan.Goals as goal

pub returns : goal.returns
returns c = one_surveyed_plan
