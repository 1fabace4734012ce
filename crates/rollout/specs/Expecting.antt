-- What the commands `limits` and `plan` do where numbers are expected of what they print.
use Rattle.std.specs.Prelude.{◌≡◌, ◌⊎◌, ℕ, List, None, Option, Some, Result, ⊤}
use Rattle.command_line.specs.declared.command.Source.{Source}
use Rattle.expectations.specs.Expecting as expecting
use Rattle.expectations.specs.Lists.{Expectation, expectations_in}
use Rattle.expectations.specs.declared.unexpected.ExpectFault.{ExpectFault}
use Rattle.plan_command.specs.declared.end.End.{End}
use Rattle.rollout.specs.Lists.{RefusesList}
use Rattle.rollout.specs.PlanFaults.{fault_of_expecting}
use Rattle.rollout.specs.Status.{status_of_end}
use Rattle.rollout.specs.Systems.{Sources}
use Rattle.rollout.specs.Texts.{OverOne, OverTwo}
use Rattle.rollout.specs.declared.fault.Fault.{Fault}
use Rattle.rollout.specs.declared.status.Status.{Status}
use Rattle.rollout.specs.declared.status.Status.TheVariants.{Done}

-- the table went out, and meets all that is expected
pub record PrintsTable (inventory : List ℕ) (expected : List Expectation) (old new : Option (List ℕ)) (status : Status) : Type 0 where
  pub meets : expecting.MeetsTable inventory expected old new
  pub tells : status ≡ Done

-- the fault is true of the inventory, of what is expected, or of where the table broke off
pub record RefusesTable (inventory : List ℕ) (expected : List Expectation) (old new : Option (List ℕ)) (fault : Fault) : Type 0 where
  pub cause : ExpectFault
  pub is : fault ≡ fault_of_expecting cause
  pub is_true : expecting.RefusesTable inventory expected old new cause

-- the plan went out, and meets all that is expected
pub record PrintsPlan (inventory playbook : List ℕ) (expected : List Expectation) (old new : Option (List ℕ)) (status : Status) : Type 0 where
  pub end : End
  pub meets : expecting.MeetsPlan inventory playbook expected old new end
  pub tells : status ≡ status_of_end end

-- the fault is true of both texts, of what is expected, or of where the plan broke off
pub record RefusesPlan (inventory playbook : List ℕ) (expected : List Expectation) (old new : Option (List ℕ)) (fault : Fault) : Type 0 where
  pub cause : ExpectFault
  pub is : fault ≡ fault_of_expecting cause
  pub is_true : expecting.RefusesPlan inventory playbook expected old new cause

-- the list says this, and the command `limits` was done so
pub record TabulatesExpecting (list : List ℕ) (sources : Sources) (inventory : Source) (input_old input_new out_old out_new : Option (List ℕ)) (result : Result Status Fault) : Type 0 where
  pub expected : List Expectation
  pub says : expectations_in list ≡ Some expected
  pub does : OverOne (λ first status. PrintsTable first expected out_old out_new status) (λ first fault. RefusesTable first expected out_old out_new fault)
      sources inventory input_old input_new out_old out_new result

-- the list says this, and the command `plan` was done so
pub record PlansExpecting (list : List ℕ) (sources : Sources) (inventory playbook : Source) (input_old input_new out_old out_new : Option (List ℕ)) (result : Result Status Fault) : Type 0 where
  pub expected : List Expectation
  pub says : expectations_in list ≡ Some expected
  pub does : OverTwo (λ first second status. PrintsPlan first second expected out_old out_new status) (λ first second fault. RefusesPlan first second expected out_old out_new fault)
      sources inventory playbook input_old input_new out_old out_new result

abbrev pub ExpectsTable : List ℕ → Sources → Source → Option (List ℕ) → Option (List ℕ) → Option (List ℕ) → Option (List ℕ) → Result Status Fault → Type 0
ExpectsTable list sources inventory input_old input_new out_old out_new result =
    RefusesList (expectations_in list ≡ None) ⊤ list input_old input_new out_old out_new result ⊎ TabulatesExpecting list sources inventory input_old input_new out_old out_new result

abbrev pub ExpectsPlan : List ℕ → Sources → Source → Source → Option (List ℕ) → Option (List ℕ) → Option (List ℕ) → Option (List ℕ) → Result Status Fault → Type 0
ExpectsPlan list sources inventory playbook input_old input_new out_old out_new result =
    RefusesList (expectations_in list ≡ None) ⊤ list input_old input_new out_old out_new result ⊎ PlansExpecting list sources inventory playbook input_old input_new out_old out_new result
