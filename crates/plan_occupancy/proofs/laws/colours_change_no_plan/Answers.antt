use Rattle.plan_occupancy.proofs.ColourLemmas.{colours_change_no_plan}
use Rattle.plan_occupancy.proofs.laws.colours_change_no_plan.Goals as goal

pub returns : goal.returns
returns c = colours_change_no_plan
