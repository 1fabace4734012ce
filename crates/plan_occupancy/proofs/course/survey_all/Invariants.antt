use Rattle.std.proofs.Common.{take}
use Rattle.plan_occupancy.specs.Inside.{AreSurveysOf}
use Rattle.plan_occupancy.proofs.course.survey_all.Given as goal

abbrev pub invariant-loop-course : goal.invariant-loop-course
invariant-loop-course l = AreSurveysOf l.fleet (take l.course-index l.courses) l.surveys.items
