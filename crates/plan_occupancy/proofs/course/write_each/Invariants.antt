use Rattle.std.proofs.Common.{map, take}
use Rattle.bounded_io.specs.Writing.{Writes}
use Rattle.recap.specs.RecapText.{text_by_place}
use Rattle.rehearse.specs.CourseSteps.{course_of}
use Rattle.plan_occupancy.specs.CourseSurveys.{surveyed_lines}
use Rattle.plan_occupancy.proofs.course.write_each.Given as goal

abbrev pub invariant-loop-place : goal.invariant-loop-place
invariant-loop-place g l =
    Writes g.W.Write.contents l.initial.text l.text (text_by_place (surveyed_lines l.manner.paint l.fleet l.manner.several) 0 (map course_of (take l.place l.courses)))
