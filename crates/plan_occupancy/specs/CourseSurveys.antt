-- What `plan --forecast --groups` writes of the texts of an inventory and a playbook.
use Rattle.std.specs.Prelude.{◌≡◌, ℕ, ◌+◌, Bool, nat_lt, Option, None, List, ◌++◌, length}
use Rattle.std.specs.List.{find, sum_by}
use Rattle.std.specs.Io.KnownBytes.{Appends}
use Rattle.bounded_io.specs.Sending.{SendsFirst}
use Rattle.text_syntax.specs.Patterns.{parts_of}
use Rattle.domains.specs.FleetViews.{FleetView}
use Rattle.domains.specs.Patterns.{names_nothing}
use Rattle.play_model.specs.declared.play.Play.{Play}
use Rattle.play_forecast.specs.Files.{Course}
use Rattle.plan_command.specs.declared.fault.PlanFault.{PlanFault}
use Rattle.plan_command.specs.declared.fault.PlanFault.TheVariants.{Read, Fleet, Playbook, Pattern, Write}
use Rattle.recap.specs.RecapText.{text_by_place}
use Rattle.rehearse.specs.CourseTexts.{AreCoursesBy, AreRead, IsEndOf, IsTrueCourseFault, batches_line, batches_opened, course_lines, failing_by, numbered}
use Rattle.rehearse.specs.declared.course_end.CourseEnd.{CourseEnd}
use Rattle.occupancy_table.specs.declared.color_mode.ColorMode.{ColorMode}
use Rattle.plan_occupancy.specs.Surveys.{course_outlook, survey_text}

-- a play's text, and below it what is told of the groups
abbrev pub surveyed_lines : ColorMode → FleetView → Bool → ℕ → Course → List ℕ
surveyed_lines paint fleet several place course =
    numbered several (place + 1) (course_lines fleet course) ++ survey_text paint fleet (course_outlook course)

-- play by play, and how many batches they open in all
abbrev pub surveyed_text : ColorMode → FleetView → Bool → List Course → List ℕ
surveyed_text paint fleet several courses =
    text_by_place (surveyed_lines paint fleet several) 0 courses ++ batches_line (sum_by batches_opened courses)

-- the courses of the plays that both texts say, where just the named hosts fail, each with what is told of the groups; and how the last of them ends
pub record IsSurveyedCourse (inventory playbook failing : List ℕ) (paint : ColorMode) (text : List ℕ) (end : CourseEnd) : Type 0 where
  pub fleet : FleetView
  pub plays : List Play
  pub read : AreRead inventory playbook fleet plays
  pub known : find (names_nothing fleet) (parts_of failing) ≡ None
  pub courses : List Course
  pub courses_are : AreCoursesBy fleet (failing_by fleet failing) plays courses
  pub text_is : text ≡ surveyed_text paint fleet (nat_lt 1 (length plays)) courses
  pub ends : IsEndOf courses end

-- that text went out, and nothing else
pub record WritesSurveyedCourse (inventory playbook failing : List ℕ) (paint : ColorMode) (old new : Option (List ℕ)) (end : CourseEnd) : Type 0 where
  pub text : List ℕ
  pub is : IsSurveyedCourse inventory playbook failing paint text end
  pub written : Appends old new text

-- it broke off after so many bytes
pub record BreaksSurveyedCourse (inventory playbook failing : List ℕ) (paint : ColorMode) (old new : Option (List ℕ)) (count : ℕ) : Type 0 where
  pub text : List ℕ
  pub end : CourseEnd
  pub is : IsSurveyedCourse inventory playbook failing paint text end
  pub written : SendsFirst old new text count

-- what the fault says is true: the texts or the names are refused as the course refuses them, or the text broke off where the fault says
abbrev pub IsTrueCourseFaultBeside : List ℕ → List ℕ → List ℕ → ColorMode → Option (List ℕ) → Option (List ℕ) → PlanFault → Type 0
IsTrueCourseFaultBeside inventory playbook failing paint old new (Write fault) = BreaksSurveyedCourse inventory playbook failing paint old new fault.written
IsTrueCourseFaultBeside inventory playbook failing paint old new (Read fault) = IsTrueCourseFault inventory playbook failing old new (Read fault)
IsTrueCourseFaultBeside inventory playbook failing paint old new (Fleet fault) = IsTrueCourseFault inventory playbook failing old new (Fleet fault)
IsTrueCourseFaultBeside inventory playbook failing paint old new (Playbook fault) = IsTrueCourseFault inventory playbook failing old new (Playbook fault)
IsTrueCourseFaultBeside inventory playbook failing paint old new (Pattern fault) = IsTrueCourseFault inventory playbook failing old new (Pattern fault)
