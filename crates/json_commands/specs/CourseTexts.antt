-- What is written as JSON of the courses of a playbook's plays.
use Rattle.std.specs.Prelude.{◌≡◌, ℕ, None, List, Option}
use Rattle.std.specs.List.{find, sum_by}
use Rattle.std.specs.Io.KnownBytes.{Appends}
use Rattle.bounded_io.specs.Sending.{SendsFirst}
use Rattle.text_syntax.specs.Patterns.{parts_of}
use Rattle.domains.specs.FleetViews.{FleetView}
use Rattle.domains.specs.Patterns.{names_nothing}
use Rattle.json_output.specs.PlayJson as json
use Rattle.play_forecast.specs.Files.{Course}
use Rattle.play_model.specs.declared.play.Play.{Play}
use Rattle.plan_command.specs.declared.fault.PlanFault.{PlanFault}
use Rattle.plan_command.specs.declared.fault.PlanFault.TheVariants.{Read, Fleet, Playbook, Pattern, Write}
use Rattle.rehearse.specs.CourseTexts.{AreCoursesBy, AreRead, IsEndOf, IsTrueCourseFault, batches_opened, failing_by}
use Rattle.rehearse.specs.declared.course_end.CourseEnd.{CourseEnd}

-- the courses, and how many batches they open in all
abbrev pub courses_json : FleetView → List Course → List ℕ
courses_json fleet courses = json.courses_json fleet courses (sum_by batches_opened courses)

-- the text is the courses of the plays that both texts say, where just the named hosts fail, and the last of them ends so
pub record IsCourseJson (inventory playbook failing : List ℕ) (text : List ℕ) (end : CourseEnd) : Type 0 where
  pub fleet : FleetView
  pub plays : List Play
  pub read : AreRead inventory playbook fleet plays
  pub known : find (names_nothing fleet) (parts_of failing) ≡ None
  pub courses : List Course
  pub courses_are : AreCoursesBy fleet (failing_by fleet failing) plays courses
  pub text_is : text ≡ courses_json fleet courses
  pub ends : IsEndOf courses end

-- the courses went out, and nothing else
pub record WritesCourseJson (inventory playbook failing : List ℕ) (old new : Option (List ℕ)) (end : CourseEnd) : Type 0 where
  pub text : List ℕ
  pub is : IsCourseJson inventory playbook failing text end
  pub written : Appends old new text

-- they broke off after so many bytes
pub record BreaksCourseJson (inventory playbook failing : List ℕ) (old new : Option (List ℕ)) (count : ℕ) : Type 0 where
  pub text : List ℕ
  pub end : CourseEnd
  pub is : IsCourseJson inventory playbook failing text end
  pub written : SendsFirst old new text count

-- the texts or the names are refused as for courses in lines, and nothing went out; or the courses broke off where the fault says
abbrev pub IsTrueCourseJsonFault : List ℕ → List ℕ → List ℕ → Option (List ℕ) → Option (List ℕ) → PlanFault → Type 0
IsTrueCourseJsonFault inventory playbook failing old new (Read fault) = IsTrueCourseFault inventory playbook failing old new (Read fault)
IsTrueCourseJsonFault inventory playbook failing old new (Fleet fault) = IsTrueCourseFault inventory playbook failing old new (Fleet fault)
IsTrueCourseJsonFault inventory playbook failing old new (Playbook fault) = IsTrueCourseFault inventory playbook failing old new (Playbook fault)
IsTrueCourseJsonFault inventory playbook failing old new (Pattern fault) = IsTrueCourseFault inventory playbook failing old new (Pattern fault)
IsTrueCourseJsonFault inventory playbook failing old new (Write fault) = BreaksCourseJson inventory playbook failing old new fault.written
