use Rattle.plan_occupancy.proofs.OneTextLemmas.{one_surveyed_course}
use Rattle.plan_occupancy.proofs.laws.one_surveyed_course.Goals as goal

pub returns : goal.returns
returns c = one_surveyed_course
