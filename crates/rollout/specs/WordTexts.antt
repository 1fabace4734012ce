-- What the command `plan` does where it is asked for the words of the steps.
use Rattle.std.specs.Prelude.{◌≡◌, ℕ, List, Option, Result}
use Rattle.command_line.specs.declared.command.Source.{Source}
use Rattle.plan_command.specs.declared.fault.PlanFault.{PlanFault}
use Rattle.command_preview.specs.WordTexts.{IsTrueFault, WritesWords}
use Rattle.command_preview.specs.declared.end.WordsEnd.{WordsEnd}
use Rattle.rollout.specs.PlanFaults.{fault_of}
use Rattle.rollout.specs.Status.{status_of_words}
use Rattle.rollout.specs.Systems.{Sources}
use Rattle.rollout.specs.Texts.{OverTwo}
use Rattle.rollout.specs.declared.fault.Fault.{Fault}
use Rattle.rollout.specs.declared.status.Status.{Status}

-- the words of both texts went out, and the status tells whether a step is sure to fail, or a word too long
pub record PrintsWords (inventory playbook : List ℕ) (old new : Option (List ℕ)) (status : Status) : Type 0 where
  pub end : WordsEnd
  pub words : WritesWords inventory playbook old new end
  pub tells : status ≡ status_of_words end

-- the fault is true of both texts, or of where the words broke off
pub record RefusesWords (inventory playbook : List ℕ) (old new : Option (List ℕ)) (fault : Fault) : Type 0 where
  pub cause : PlanFault
  pub is : fault ≡ fault_of cause
  pub is_true : IsTrueFault inventory playbook old new cause

-- the command `plan`, asked for words
abbrev pub TellsWords : Sources → Source → Source → Option (List ℕ) → Option (List ℕ) → Option (List ℕ) → Option (List ℕ) → Result Status Fault → Type 0
TellsWords sources inventory playbook input_old input_new out_old out_new result =
    OverTwo (λ first second status. PrintsWords first second out_old out_new status) (λ first second fault. RefusesWords first second out_old out_new fault)
    sources inventory playbook input_old input_new out_old out_new result
