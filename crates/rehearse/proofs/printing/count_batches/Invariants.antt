use Rattle.std.proofs.Common.{◌≡◌, map, take}
use Rattle.std.specs.List.{sum_by}
use Rattle.rehearse.specs.CourseSteps.{course_of}
use Rattle.rehearse.specs.CourseTexts.{batches_opened}
use Rattle.rehearse.proofs.printing.count_batches.Given as goal

abbrev pub invariant-loop-course : goal.invariant-loop-course
invariant-loop-course l = l.batches ≡ sum_by batches_opened (map course_of (take l.course-index l.courses))
