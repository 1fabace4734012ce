use Rattle.plan_occupancy.proofs.ColourLemmas.{colours_change_no_course}
use Rattle.plan_occupancy.proofs.laws.colours_change_no_course.Goals as goal

pub returns : goal.returns
returns c = colours_change_no_course
