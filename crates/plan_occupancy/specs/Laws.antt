-- What holds of every table that is told, and of the texts that tell it.
use Rattle.std.specs.Prelude.{◌≡◌, ℕ, List, All}
use Rattle.domains.specs.FleetViews.{FleetView, IsSound}
use Rattle.fleet_states.specs.Batches.{Fails}
use Rattle.play_model.specs.declared.play.Play.{Play}
use Rattle.play_forecast.specs.Files.{Course}
use Rattle.play_forecast.specs.PlayPlans.{IsPlanOf, first_statuses}
use Rattle.batch_plan.specs.declared.answers.Answer.{Answer}
use Rattle.plan_command.specs.declared.end.End.{End}
use Rattle.rehearse.specs.CourseTexts.{AreCoursesBy}
use Rattle.rehearse.specs.declared.course_end.CourseEnd.{CourseEnd}
use Rattle.occupancy_table.specs.declared.color_mode.ColorMode.{ColorMode}
use Rattle.occupancy_table.specs.declared.color_mode.ColorMode.TheVariants.{Plain, Coloured}
use Rattle.occupancy_table.specs.Colours.{shown}
use Rattle.occupancy_table.specs.Columns.{AreWithinLimits}
use Rattle.plan_occupancy.specs.CourseSurveys.{IsSurveyedCourse}
use Rattle.plan_occupancy.specs.PlanSurveys.{IsSurveyedPlan}
use Rattle.plan_occupancy.specs.Surveys.{columns_of, course_outlook, plan_outlook}

-- in no column of a plan's table is a group over its limit
abbrev pub PlansStayWithin : Type 0
PlansStayWithin =
    (fleet : FleetView) (play : Play) (answer : Answer) (held : List ℕ) → IsSound fleet → IsPlanOf fleet play answer held
    → AreWithinLimits fleet (columns_of (plan_outlook (first_statuses fleet play) answer held))

-- nor in one of a course's tables, whoever fails in it
abbrev pub CoursesStayWithin : Type 0
CoursesStayWithin =
    (fleet : FleetView) (fails : Fails) (plays : List Play) (courses : List Course) → IsSound fleet → AreCoursesBy fleet fails plays courses
    → All (λ course. AreWithinLimits fleet (columns_of (course_outlook course))) courses

-- an inventory's text and a playbook's have one text of a plan with its groups at most, painted so, and one end
abbrev pub OneSurveyedPlan : Type 0
OneSurveyedPlan =
    (inventory playbook : List ℕ) (paint : ColorMode) (text other : List ℕ) (end otherwise : End) → IsSurveyedPlan inventory playbook paint text end
    → IsSurveyedPlan inventory playbook paint other otherwise
    → (text ≡ other) × (end ≡ otherwise)

-- and with the names of failing hosts one text of a course with its groups
abbrev pub OneSurveyedCourse : Type 0
OneSurveyedCourse =
    (inventory playbook failing : List ℕ) (paint : ColorMode) (text other : List ℕ) (end otherwise : CourseEnd) → IsSurveyedCourse inventory playbook failing paint text end
    → IsSurveyedCourse inventory playbook failing paint other otherwise → (text ≡ other) × (end ≡ otherwise)

-- a terminal shows of a coloured plan with its groups what the plain one is
abbrev pub ColoursChangeNoPlan : Type 0
ColoursChangeNoPlan =
    (inventory playbook text plain : List ℕ) (end otherwise : End) → IsSurveyedPlan inventory playbook Coloured text end → IsSurveyedPlan inventory playbook Plain plain otherwise
    → (shown text ≡ plain) × (end ≡ otherwise)

-- and of a coloured course what the plain one is
abbrev pub ColoursChangeNoCourse : Type 0
ColoursChangeNoCourse =
    (inventory playbook failing text plain : List ℕ) (end otherwise : CourseEnd) → IsSurveyedCourse inventory playbook failing Coloured text end
    → IsSurveyedCourse inventory playbook failing Plain plain otherwise → (shown text ≡ plain) × (end ≡ otherwise)
