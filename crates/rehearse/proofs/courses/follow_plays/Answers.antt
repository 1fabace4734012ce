use Rattle.std.proofs.Common.{map}
use Rattle.fleet_states.specs.Batches.{fails_in}
use Rattle.rehearse.specs.CourseSteps.{course_of}
use Rattle.rehearse.proofs.CoursesLemmas.{all_ok, begin_by}
use Rattle.rehearse.proofs.courses.follow_plays.Goals as goal

pub returns-clause-are : goal.returns-clause-are
returns-clause-are c =
    all_ok c.follow_plays_from.result
    (λ courses. begin_by c.args.fleet.now (fails_in c.args.failing.now) c.args.plays.now c.first-item.result c.in_ok-statuses.statuses.items (map course_of courses.items)
    c.in-len1-up.len_at_least c.first-item.is c.in_ok-statuses.ensures.are) c.follow_plays_from.ensures.are
