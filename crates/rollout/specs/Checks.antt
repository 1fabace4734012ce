-- What the command `check` does with the inputs that a line names.
use Rattle.std.specs.Prelude.{◌≡◌, ℕ, List, Option, Result}
use Rattle.command_line.specs.declared.command.Source.{Source}
use Rattle.plan_check.specs.CheckTexts.{IsTrueFault, WritesCheck}
use Rattle.plan_check.specs.declared.end.CheckEnd.{CheckEnd}
use Rattle.plan_check.specs.declared.fault.CheckFault.{CheckFault}
use Rattle.rollout.specs.PlanFaults.{fault_of_check}
use Rattle.rollout.specs.Status.{status_of_check}
use Rattle.rollout.specs.Systems.{Sources}
use Rattle.rollout.specs.Texts.{OverThree}
use Rattle.rollout.specs.declared.fault.Fault.{Fault}
use Rattle.rollout.specs.declared.status.Status.{Status}

-- what is told of the plan went out, and the status tells of it too
pub record PrintsCheck (inventory playbook plan : List ℕ) (old new : Option (List ℕ)) (status : Status) : Type 0 where
  pub end : CheckEnd
  pub text : WritesCheck inventory playbook plan old new end
  pub tells : status ≡ status_of_check end

-- the fault is true of the three texts, or of where the text broke off
pub record RefusesCheck (inventory playbook plan : List ℕ) (old new : Option (List ℕ)) (fault : Fault) : Type 0 where
  pub cause : CheckFault
  pub is : fault ≡ fault_of_check cause
  pub is_true : IsTrueFault inventory playbook plan old new cause

-- the command `check`
abbrev pub Checks : Sources → Source → Source → Source → Option (List ℕ) → Option (List ℕ) → Option (List ℕ) → Option (List ℕ) → Result Status Fault → Type 0
Checks sources inventory playbook plan input_old input_new out_old out_new result =
    OverThree (λ first second third status. PrintsCheck first second third out_old out_new status) (λ first second third fault. RefusesCheck first second third out_old out_new fault)
    sources inventory playbook plan input_old input_new out_old out_new result
