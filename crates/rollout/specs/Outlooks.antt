-- What commands do that begin from the journal of a run.
use Rattle.std.specs.Prelude.{◌≡◌, ◌⊎◌, ℕ, Bool, List, Option, None, Some, Result, Ok, Err}
use Rattle.std.specs.Io.KnownBytes.{Keeps}
use Rattle.command_line.specs.declared.command.Source.{Source}
use Rattle.plan_command.specs.declared.end.End.{End}
use Rattle.rehearse.specs.declared.course_end.CourseEnd.{CourseEnd}
use Rattle.resume_preview.specs.Asked.{Question}
use Rattle.resume_preview.specs.Courses.{IsTrueOfCourse, WritesCourse}
use Rattle.resume_preview.specs.Limits.{IsTrueOfTable, WritesTable}
use Rattle.resume_preview.specs.Plans.{IsTrueOfPlan, WritesPlan}
use Rattle.resume_preview.specs.Rehearsals.{IsTrueOfRehearsal, RehearsesRest}
use Rattle.resume_preview.specs.declared.fault.OutlookFault.{OutlookFault}
use Rattle.resume_preview.specs.declared.fault.PreviewFault.{PreviewFault}
use Rattle.rollout.specs.Inputs.{IsTextOf, IsTextOfFile, IsUnreadable, InputUnreadable, ReadsBoth}
use Rattle.rollout.specs.OutlookFaults.{fault_of, fault_of_rest}
use Rattle.rollout.specs.Rehearsals.{status_of_session}
use Rattle.rollout.specs.Resumes.{LacksJournal, ResumeWish}
use Rattle.rollout.specs.Status.{status_of_course, status_of_end}
use Rattle.rollout.specs.Systems.{Sources}
use Rattle.rollout.specs.declared.fault.Fault.{Fault}
use Rattle.rollout.specs.declared.status.Status.{Status}
use Rattle.rollout.specs.declared.status.Status.TheVariants.{Done}

-- what is asked of these texts
abbrev pub question : List ℕ → List ℕ → List ℕ → ResumeWish → Question
question inventory playbook journal wish =
    record { inventory = inventory; playbook = playbook; journal = journal; names = wish.mended; takes_others = wish.takes_others }

-- the inputs were read, and behind them the journal
pub record ReadsAll (sources : Sources) (inventory playbook : Source) (name : List ℕ) (old new : Option (List ℕ)) (first second third : List ℕ) : Type 0 where
  pub texts : ReadsBoth sources inventory playbook old new first second
  pub journal : IsTextOfFile (sources.known.files name) third

-- an input can't be read, or the journal
abbrev pub LacksAny : Sources → Source → Source → List ℕ → Option (List ℕ) → Option (List ℕ) → Fault → Type 0
LacksAny sources inventory playbook name old new fault = InputUnreadable sources inventory playbook old new fault ⊎ LacksJournal sources.known.files name fault

-- the plan, or the course where one is asked for, went out, and the status tells of its end
pub record PrintsPlan (asked : Question) (old new : Option (List ℕ)) (status : Status) : Type 0 where
  pub end : End
  pub plan : WritesPlan asked old new end
  pub tells : status ≡ status_of_end end

pub record PrintsCourse (asked : Question) (failing : List ℕ) (old new : Option (List ℕ)) (status : Status) : Type 0 where
  pub end : CourseEnd
  pub course : WritesCourse asked failing old new end
  pub tells : status ≡ status_of_course end

abbrev pub PrintsRest : Option (List ℕ) → Question → Option (List ℕ) → Option (List ℕ) → Status → Type 0
PrintsRest None asked old new status = PrintsPlan asked old new status
PrintsRest (Some failing) asked old new status = PrintsCourse asked failing old new status

abbrev pub IsTrueOfRest : Option (List ℕ) → Question → Option (List ℕ) → Option (List ℕ) → OutlookFault → Type 0
IsTrueOfRest None asked old new cause = IsTrueOfPlan asked old new cause
IsTrueOfRest (Some failing) asked old new cause = IsTrueOfCourse asked failing old new cause

-- the fault is true of the texts, or of where the text broke off
pub record RefusesRest (course : Option (List ℕ)) (asked : Question) (old new : Option (List ℕ)) (fault : Fault) : Type 0 where
  pub cause : OutlookFault
  pub is : fault ≡ fault_of cause
  pub is_true : IsTrueOfRest course asked old new cause

-- all was read, and what is asked for went out
pub record ShowsRest (course : Option (List ℕ)) (sources : Sources) (inventory playbook : Source) (wish : ResumeWish) (input_old input_new out_old out_new : Option (List ℕ)) (status : Status) : Type 0 where
  pub first : List ℕ
  pub second : List ℕ
  pub third : List ℕ
  pub reads : ReadsAll sources inventory playbook wish.journal input_old input_new first second third
  pub prints : PrintsRest course (question first second third wish) out_old out_new status

-- all was read, and the fault is true
pub record EndsRest (course : Option (List ℕ)) (sources : Sources) (inventory playbook : Source) (wish : ResumeWish) (input_old input_new out_old out_new : Option (List ℕ)) (fault : Fault) : Type 0 where
  pub first : List ℕ
  pub second : List ℕ
  pub third : List ℕ
  pub reads : ReadsAll sources inventory playbook wish.journal input_old input_new first second third
  pub refuses : RefusesRest course (question first second third wish) out_old out_new fault

-- the command `plan` that begins from the journal of a run
abbrev pub PlansRest : Option (List ℕ) → Sources → Source → Source → ResumeWish → Option (List ℕ) → Option (List ℕ) → Option (List ℕ) → Option (List ℕ) → Result Status Fault → Type 0
PlansRest course sources inventory playbook wish input_old input_new out_old out_new (Ok status) =
    ShowsRest course sources inventory playbook wish input_old input_new out_old out_new status
PlansRest course sources inventory playbook wish input_old input_new out_old out_new (Err fault) =
    (LacksAny sources inventory playbook wish.journal input_old input_new fault × Keeps out_old out_new)
    ⊎ EndsRest course sources inventory playbook wish input_old input_new out_old out_new fault

-- all commands were answered, and nothing more is told of it but that one was refused, where none is to be
pub record AnswersRest (strict : Bool) (asked : Question) (input_old input_new out_old out_new : Option (List ℕ)) (status : Status) : Type 0 where
  pub refused : Bool
  pub rehearses : RehearsesRest asked input_old input_new out_old out_new refused
  pub tells : status ≡ status_of_session strict refused

-- the fault is true of the texts, of a session, or of where its answers broke off
pub record BreaksRehearsal (is_reliable : Bool) (asked : Question) (input_old input_new out_old out_new : Option (List ℕ)) (fault : Fault) : Type 0 where
  pub cause : PreviewFault
  pub is : fault ≡ fault_of_rest cause
  pub is_true : IsTrueOfRehearsal is_reliable asked input_old input_new out_old out_new cause

-- all was read, and behind the inputs, where they are files, the commands
pub record HoldsRehearsal (strict : Bool) (sources : Sources) (inventory playbook : Source) (wish : ResumeWish) (input_old input_new out_old out_new : Option (List ℕ)) (status : Status) : Type 0 where
  pub first : List ℕ
  pub second : List ℕ
  pub third : List ℕ
  pub between : Option (List ℕ)
  pub reads : ReadsAll sources inventory playbook wish.journal input_old between first second third
  pub answers : AnswersRest strict (question first second third wish) between input_new out_old out_new status

pub record EndsRehearsal (sources : Sources) (inventory playbook : Source) (wish : ResumeWish) (input_old input_new out_old out_new : Option (List ℕ)) (fault : Fault) : Type 0 where
  pub first : List ℕ
  pub second : List ℕ
  pub third : List ℕ
  pub between : Option (List ℕ)
  pub reads : ReadsAll sources inventory playbook wish.journal input_old between first second third
  pub ends : BreaksRehearsal sources.is_reliable (question first second third wish) between input_new out_old out_new fault

-- the command `rehearse` that begins from the journal of a run
abbrev pub RehearsesFrom : Bool → Sources → Source → Source → ResumeWish → Option (List ℕ) → Option (List ℕ) → Option (List ℕ) → Option (List ℕ) → Result Status Fault → Type 0
RehearsesFrom strict sources inventory playbook wish input_old input_new out_old out_new (Ok status) =
    HoldsRehearsal strict sources inventory playbook wish input_old input_new out_old out_new status
RehearsesFrom strict sources inventory playbook wish input_old input_new out_old out_new (Err fault) =
    (LacksAny sources inventory playbook wish.journal input_old input_new fault × Keeps out_old out_new)
    ⊎ EndsRehearsal sources inventory playbook wish input_old input_new out_old out_new fault

-- the inventory was read, and behind it the journal
pub record ReadsWithJournal (sources : Sources) (inventory : Source) (name : List ℕ) (old new : Option (List ℕ)) (first second : List ℕ) : Type 0 where
  pub text : IsTextOf sources inventory old new first
  pub journal : IsTextOfFile (sources.known.files name) second

abbrev pub LacksOne : Sources → Source → List ℕ → Option (List ℕ) → Option (List ℕ) → Fault → Type 0
LacksOne sources inventory name old new fault = IsUnreadable sources inventory old new fault ⊎ LacksJournal sources.known.files name fault

-- the table of where the run stands went out
pub record ShowsStanding (sources : Sources) (inventory : Source) (wish : ResumeWish) (input_old input_new out_old out_new : Option (List ℕ)) (status : Status) : Type 0 where
  pub first : List ℕ
  pub second : List ℕ
  pub reads : ReadsWithJournal sources inventory wish.journal input_old input_new first second
  pub table : WritesTable first second wish.mended wish.takes_others out_old out_new
  pub tells : status ≡ Done

pub record EndsStanding (sources : Sources) (inventory : Source) (wish : ResumeWish) (input_old input_new out_old out_new : Option (List ℕ)) (fault : Fault) : Type 0 where
  pub first : List ℕ
  pub second : List ℕ
  pub reads : ReadsWithJournal sources inventory wish.journal input_old input_new first second
  pub cause : OutlookFault
  pub is : fault ≡ fault_of cause
  pub is_true : IsTrueOfTable first second wish.mended wish.takes_others out_old out_new cause

-- the command `limits` that begins from the journal of a run
abbrev pub LimitsFromJournal : Sources → Source → ResumeWish → Option (List ℕ) → Option (List ℕ) → Option (List ℕ) → Option (List ℕ) → Result Status Fault → Type 0
LimitsFromJournal sources inventory wish input_old input_new out_old out_new (Ok status) =
    ShowsStanding sources inventory wish input_old input_new out_old out_new status
LimitsFromJournal sources inventory wish input_old input_new out_old out_new (Err fault) =
    (LacksOne sources inventory wish.journal input_old input_new fault × Keeps out_old out_new)
    ⊎ EndsStanding sources inventory wish input_old input_new out_old out_new fault
