-- The course of the rest of a run.
use Rattle.std.specs.Prelude.{◌≡◌, ℕ, None, Option, List}
use Rattle.std.specs.List.{find}
use Rattle.std.specs.Io.KnownBytes.{Appends, Keeps}
use Rattle.bounded_io.specs.Sending.{SendsFirst}
use Rattle.text_syntax.specs.Patterns.{parts_of}
use Rattle.domains.specs.Patterns.{IsPatternFault, names_nothing}
use Rattle.domains.specs.declared.pattern_fault.PatternFault.{PatternFault}
use Rattle.play_forecast.specs.Files.{Course}
use Rattle.rehearse.specs.CourseTexts.{AreCoursesFrom, IsEndOf, courses_text_from, failing_by}
use Rattle.rehearse.specs.declared.course_end.CourseEnd.{CourseEnd}
use Rattle.resume_state.specs.declared.inputs.Resumption.{Resumption}
use Rattle.run_command.specs.Beginnings.{plays_from}
use Rattle.run_command.specs.Recaps.{are_several}
use Rattle.resume_preview.specs.Asked.{GoesOnWith, Question, Refuses}
use Rattle.resume_preview.specs.declared.fault.OutlookFault.{OutlookFault}
use Rattle.resume_preview.specs.declared.fault.OutlookFault.TheVariants.{Resume, Failing, Write}

-- the run goes on, and these are the courses of the play with which it does and of those behind it, from the statuses that it has then, where just the named hosts fail
pub record AreNextCourses (asked : Question) (failing : List ℕ) (resumption : Resumption) (courses : List Course) : Type 0 where
  pub goes : GoesOnWith asked resumption
  pub known : find (names_nothing resumption.fleet) (parts_of failing) ≡ None
  pub are : AreCoursesFrom resumption.fleet (failing_by resumption.fleet failing) (plays_from resumption.beginning resumption.plays.items)
      resumption.beginning.start.statuses.items courses

-- their text, and how the last of them ends
pub record IsCourse (asked : Question) (failing text : List ℕ) (end : CourseEnd) : Type 0 where
  pub resumption : Resumption
  pub courses : List Course
  pub are : AreNextCourses asked failing resumption courses
  pub text_is : text ≡ courses_text_from resumption.beginning.plays_before resumption.fleet (are_several resumption.plays.items) courses
  pub ends : IsEndOf courses end

-- the text went out, and nothing else
pub record WritesCourse (asked : Question) (failing : List ℕ) (old new : Option (List ℕ)) (end : CourseEnd) : Type 0 where
  pub text : List ℕ
  pub is : IsCourse asked failing text end
  pub written : Appends old new text

-- it broke off after so many bytes
pub record BreaksCourse (asked : Question) (failing : List ℕ) (old new : Option (List ℕ)) (count : ℕ) : Type 0 where
  pub text : List ℕ
  pub end : CourseEnd
  pub is : IsCourse asked failing text end
  pub written : SendsFirst old new text count

-- the run goes on, and the fault is that of the names of failing hosts, or want of memory
pub record IsNobodyToFail (asked : Question) (failing : List ℕ) (fault : PatternFault) : Type 0 where
  pub resumption : Resumption
  pub goes : GoesOnWith asked resumption
  pub refused : IsPatternFault resumption.fleet (parts_of failing) fault

-- what the fault says is true and nothing went out; or the text broke off where the fault says
abbrev pub IsTrueOfCourse : Question → List ℕ → Option (List ℕ) → Option (List ℕ) → OutlookFault → Type 0
IsTrueOfCourse asked failing old new (Resume why) = Refuses asked why × Keeps old new
IsTrueOfCourse asked failing old new (Failing pattern) = IsNobodyToFail asked failing pattern × Keeps old new
IsTrueOfCourse asked failing old new (Write fault) = BreaksCourse asked failing old new fault.written
