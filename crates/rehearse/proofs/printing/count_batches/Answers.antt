use Rattle.std.proofs.Common.{arith}
use Rattle.rehearse.proofs.CoursesLemmas.{within_sum}
use Rattle.rehearse.proofs.printing.count_batches.Goals as goal

pub overflow_add-batches : goal.overflow_add-batches
overflow_add-batches c =
    omega (arith, c.loop-course.invariant, c.batches.ensures, within_sum c.args.courses.now c.loop-course.course-index c.course-item.result c.loop-course-test.true c.course-item.is, c.requires.few)
