use Rattle.std.proofs.Common.{ℕ, List, Option, map, ap, ◌∙◌, subst}
use Rattle.fleet_states.specs.Batches.{Fails, fails_in}
use Rattle.rehearse.specs.CourseSteps.{course_of}
use Rattle.rehearse.specs.CourseTexts.{AreCoursesBy}
use Rattle.rehearse.proofs.printing.foresee.Goals as goal

pub returns-clause-are : goal.returns-clause-are
returns-clause-are c =
    let so = ap (λ (l : List (Option ℕ)). fails_in l) c.as_slice.ensures.value ∙ c.in_ok-steps.ensures.so in
    subst (λ (fails : Fails). AreCoursesBy c.args.fleet.now fails c.args.plays.now (map course_of c.in_ok-follow_plays.field-0.items)) so c.in_ok-follow_plays.ensures.are
