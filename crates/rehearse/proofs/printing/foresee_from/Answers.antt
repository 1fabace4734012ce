use Rattle.std.proofs.Common.{ℕ, List, Option, map, ap, ◌∙◌, subst}
use Rattle.fleet_states.specs.Batches.{Fails, fails_in}
use Rattle.rehearse.specs.CourseSteps.{course_of}
use Rattle.rehearse.specs.CourseTexts.{AreCoursesFrom}
use Rattle.rehearse.proofs.printing.foresee_from.Goals as goal

pub returns-clause-are : goal.returns-clause-are
returns-clause-are c =
    let so = ap (λ (l : List (Option ℕ)). fails_in l) c.as_slice.ensures.value ∙ c.in_ok-steps.ensures.so in
    subst (λ (fails : Fails). AreCoursesFrom c.args.fleet.now fails c.args.plays.now c.args.statuses.items (map course_of c.in_ok-follow_plays_from.field-0.items)) so c.in_ok-follow_plays_from.ensures.are
