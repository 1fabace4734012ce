use Rattle.std.proofs.Common.{map, take}
use Rattle.bounded_io.specs.Writing.{Writes}
use Rattle.rehearse.specs.CourseSteps.{course_of}
use Rattle.rehearse.specs.CourseTexts.{courses_lines_from}
use Rattle.rehearse.proofs.printing.write_courses.Given as goal

abbrev pub invariant-loop-place : goal.invariant-loop-place
invariant-loop-place g l =
    Writes g.W.Write.contents l.initial.text l.text (courses_lines_from l.plays_before l.fleet l.several (map course_of (take l.place l.courses)))
