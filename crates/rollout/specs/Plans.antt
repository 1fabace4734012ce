-- What the command `plan` does with the inputs that a line names.
use Rattle.std.specs.Prelude.{◌≡◌, ◌⊎◌, ℕ, List, Option, Result, Ok, Err}
use Rattle.std.specs.Io.KnownBytes.{Keeps}
use Rattle.command_line.specs.declared.command.Source.{Source}
use Rattle.plan_command.specs.PlanTexts.{WritesPlan, IsTrueFault}
use Rattle.plan_command.specs.declared.end.End.{End}
use Rattle.plan_command.specs.declared.fault.PlanFault.{PlanFault}
use Rattle.rollout.specs.Inputs.{InputUnreadable, ReadsBoth}
use Rattle.rollout.specs.PlanFaults.{fault_of}
use Rattle.rollout.specs.Status.{status_of_end}
use Rattle.rollout.specs.Systems.{Sources}
use Rattle.rollout.specs.declared.fault.Fault.{Fault}
use Rattle.rollout.specs.declared.status.Status.{Status}

-- the plan of both texts went out, and the status tells of its end
pub record PrintsPlan (inventory playbook : List ℕ) (old new : Option (List ℕ)) (status : Status) : Type 0 where
  pub end : End
  pub plan : WritesPlan inventory playbook old new end
  pub tells : status ≡ status_of_end end

-- the fault is true of both texts, or of where the plan broke off
pub record RefusesTexts (inventory playbook : List ℕ) (old new : Option (List ℕ)) (fault : Fault) : Type 0 where
  pub cause : PlanFault
  pub is : fault ≡ fault_of cause
  pub is_true : IsTrueFault inventory playbook old new cause

-- both inputs were read, and the plan of their texts went out
pub record ShowsPlan (sources : Sources) (inventory playbook : Source) (input_old input_new out_old out_new : Option (List ℕ)) (status : Status) : Type 0 where
  pub first : List ℕ
  pub second : List ℕ
  pub texts : ReadsBoth sources inventory playbook input_old input_new first second
  pub prints : PrintsPlan first second out_old out_new status

-- both inputs were read, and the fault is true of their texts
pub record RefusesPlan (sources : Sources) (inventory playbook : Source) (input_old input_new out_old out_new : Option (List ℕ)) (fault : Fault) : Type 0 where
  pub first : List ℕ
  pub second : List ℕ
  pub texts : ReadsBoth sources inventory playbook input_old input_new first second
  pub refuses : RefusesTexts first second out_old out_new fault

-- the command `plan`: no fault of a text is told before both inputs were read
abbrev pub Plans : Sources → Source → Source → Option (List ℕ) → Option (List ℕ) → Option (List ℕ) → Option (List ℕ) → Result Status Fault → Type 0
Plans sources inventory playbook input_old input_new out_old out_new (Ok status) =
    ShowsPlan sources inventory playbook input_old input_new out_old out_new status
Plans sources inventory playbook input_old input_new out_old out_new (Err fault) =
    (InputUnreadable sources inventory playbook input_old input_new fault × Keeps out_old out_new)
    ⊎ RefusesPlan sources inventory playbook input_old input_new out_old out_new fault
