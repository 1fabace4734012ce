-- What the command `plan` does with the inputs that a line names, where it is asked for the course.
use Rattle.std.specs.Prelude.{◌≡◌, ◌⊎◌, ℕ, List, Option, Some, None, Result, Ok, Err}
use Rattle.std.specs.Io.KnownBytes.{Keeps}
use Rattle.command_line.specs.declared.command.Source.{Source}
use Rattle.plan_command.specs.declared.fault.PlanFault.{PlanFault}
use Rattle.rehearse.specs.CourseTexts.{IsTrueCourseFault, WritesCourse}
use Rattle.rehearse.specs.declared.course_end.CourseEnd.{CourseEnd}
use Rattle.rollout.specs.Inputs.{InputUnreadable, ReadsBoth}
use Rattle.rollout.specs.PlanFaults.{fault_of}
use Rattle.rollout.specs.Plans.{Plans}
use Rattle.rollout.specs.Status.{status_of_course}
use Rattle.rollout.specs.Systems.{Sources}
use Rattle.rollout.specs.declared.fault.Fault.{Fault}
use Rattle.rollout.specs.declared.status.Status.{Status}

-- the course of both texts went out, where just the named hosts fail, and the status tells of its end
pub record PrintsCourse (inventory playbook failing : List ℕ) (old new : Option (List ℕ)) (status : Status) : Type 0 where
  pub end : CourseEnd
  pub course : WritesCourse inventory playbook failing old new end
  pub tells : status ≡ status_of_course end

-- the fault is true of both texts or of the names, or of where the course broke off
pub record RefusesNamed (inventory playbook failing : List ℕ) (old new : Option (List ℕ)) (fault : Fault) : Type 0 where
  pub cause : PlanFault
  pub is : fault ≡ fault_of cause
  pub is_true : IsTrueCourseFault inventory playbook failing old new cause

-- both inputs were read, and the course of their texts went out
pub record ShowsCourse (sources : Sources) (inventory playbook : Source) (failing : List ℕ) (input_old input_new out_old out_new : Option (List ℕ)) (status : Status) : Type 0 where
  pub first : List ℕ
  pub second : List ℕ
  pub texts : ReadsBoth sources inventory playbook input_old input_new first second
  pub prints : PrintsCourse first second failing out_old out_new status

-- both inputs were read, and the fault is true of their texts or of the names
pub record RefusesCourse (sources : Sources) (inventory playbook : Source) (failing : List ℕ) (input_old input_new out_old out_new : Option (List ℕ)) (fault : Fault) : Type 0 where
  pub first : List ℕ
  pub second : List ℕ
  pub texts : ReadsBoth sources inventory playbook input_old input_new first second
  pub refuses : RefusesNamed first second failing out_old out_new fault

-- the command where it is asked for the course in which these hosts fail
abbrev pub Foresees : Sources → Source → Source → List ℕ → Option (List ℕ) → Option (List ℕ) → Option (List ℕ) → Option (List ℕ) → Result Status Fault → Type 0
Foresees sources inventory playbook failing input_old input_new out_old out_new (Ok status) =
    ShowsCourse sources inventory playbook failing input_old input_new out_old out_new status
Foresees sources inventory playbook failing input_old input_new out_old out_new (Err fault) =
    (InputUnreadable sources inventory playbook input_old input_new fault × Keeps out_old out_new)
    ⊎ RefusesCourse sources inventory playbook failing input_old input_new out_old out_new fault

-- the command `plan`: the plan of the first play, or the course of all where one is asked for
abbrev pub PlansOrForesees : Option (List ℕ) → Sources → Source → Source → Option (List ℕ) → Option (List ℕ) → Option (List ℕ) → Option (List ℕ) → Result Status Fault → Type 0
PlansOrForesees None sources inventory playbook input_old input_new out_old out_new result = Plans sources inventory playbook input_old input_new out_old out_new result
PlansOrForesees (Some failing) sources inventory playbook input_old input_new out_old out_new result =
    Foresees sources inventory playbook failing input_old input_new out_old out_new result
