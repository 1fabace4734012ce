-- What is written of the texts of an inventory and a playbook of which numbers are expected.
use Rattle.std.specs.Prelude.{◌≡◌, ℕ, Option, None, Some, List}
use Rattle.std.specs.Io.KnownBytes.{Appends, Keeps}
use Rattle.bounded_io.specs.Sending.{SendsFirst}
use Rattle.domains.specs.FleetViews.{FleetView}
use Rattle.batch_plan.specs.declared.answers.Answer.{Answer}
use Rattle.recap.specs.LimitsTable.{fleet_table}
use Rattle.recap.specs.PlanText.{plan_text}
use Rattle.plan_command.specs.Ends.{end_of}
use Rattle.plan_command.specs.PlanTexts as plans
use Rattle.play_model.specs.declared.play.Play.{Play}
use Rattle.plan_command.specs.PlanTexts.{ArePlaysIn, IsFleetIn, IsPlanIn, IsUnread}
use Rattle.plan_command.specs.declared.end.End.{End}
use Rattle.plan_command.specs.declared.fault.PlanFault.TheVariants.{Read, Fleet, Playbook, Pattern, Write}
use Rattle.expectations.specs.Facts.{Unmet, first_unmet, number_in_plan, number_in_table}
use Rattle.expectations.specs.Lists.{Expectation}
use Rattle.expectations.specs.Shown.{unexpected_shown}
use Rattle.expectations.specs.declared.unexpected.ExpectFault.{ExpectFault}
use Rattle.expectations.specs.declared.unexpected.ExpectFault.TheVariants.{Plan, Unexpected, Memory}

-- the fault tells what isn't met
abbrev pub IsTold : Option Unmet → ExpectFault → Type 0
IsTold unmet (Unexpected found) = unmet ≡ Some (unexpected_shown found)
IsTold unmet (Plan fault) = ⊥
IsTold unmet Memory = ⊥

-- the table of the inventory's limits went out, and of what is expected this is the first that it doesn't meet, if it is anything
pub record TabulatesAs (inventory : List ℕ) (expected : List Expectation) (unmet : Option Unmet) (old new : Option (List ℕ)) : Type 0 where
  pub fleet : FleetView
  pub built : IsFleetIn inventory fleet
  pub written : Appends old new (fleet_table fleet)
  pub first : first_unmet (number_in_table fleet) expected ≡ unmet

abbrev pub MeetsTable : List ℕ → List Expectation → Option (List ℕ) → Option (List ℕ) → Type 0
MeetsTable inventory expected old new = TabulatesAs inventory expected None old new

-- the table broke off after so many bytes
pub record BreaksTable (inventory : List ℕ) (old new : Option (List ℕ)) (count : ℕ) : Type 0 where
  pub fleet : FleetView
  pub built : IsFleetIn inventory fleet
  pub written : SendsFirst old new (fleet_table fleet) count

-- the inventory is accepted
pub record IsAccepted (inventory : List ℕ) : Type 0 where
  pub fleet : FleetView
  pub built : IsFleetIn inventory fleet

-- the inventory is refused so and nothing went out; or the table went out, and doesn't meet what the fault says; or it broke off where the fault says
abbrev pub RefusesTable : List ℕ → List Expectation → Option (List ℕ) → Option (List ℕ) → ExpectFault → Type 0
RefusesTable inventory expected old new (Unexpected found) = TabulatesAs inventory expected (Some (unexpected_shown found)) old new
RefusesTable inventory expected old new Memory = IsAccepted inventory × Keeps old new
RefusesTable inventory expected old new (Plan (Read fault)) = IsUnread inventory (Read fault) × Keeps old new
RefusesTable inventory expected old new (Plan (Fleet fault)) = IsUnread inventory (Fleet fault) × Keeps old new
RefusesTable inventory expected old new (Plan (Playbook fault)) = ⊥
RefusesTable inventory expected old new (Plan (Pattern fault)) = ⊥
RefusesTable inventory expected old new (Plan (Write fault)) = BreaksTable inventory old new fault.written

-- the plan of the first play went out, which ends so, and of what is expected this is the first that it doesn't meet, if it is anything
pub record PlansAs (inventory playbook : List ℕ) (expected : List Expectation) (unmet : Option Unmet) (old new : Option (List ℕ)) (end : End) : Type 0 where
  pub fleet : FleetView
  pub answer : Answer
  pub held : List ℕ
  pub plan : IsPlanIn inventory playbook fleet answer held
  pub written : Appends old new (plan_text fleet answer held)
  pub first : first_unmet (number_in_plan answer) expected ≡ unmet
  pub ends : end ≡ end_of answer held

abbrev pub MeetsPlan : List ℕ → List ℕ → List Expectation → Option (List ℕ) → Option (List ℕ) → End → Type 0
MeetsPlan inventory playbook expected old new end = PlansAs inventory playbook expected None old new end

-- the plan went out, and what the fault says isn't met
pub record MissesPlan (inventory playbook : List ℕ) (expected : List Expectation) (unmet : Unmet) (old new : Option (List ℕ)) : Type 0 where
  pub end : End
  pub plans : PlansAs inventory playbook expected (Some unmet) old new end

-- both texts are accepted
pub record AreAccepted (inventory playbook : List ℕ) : Type 0 where
  pub fleet : FleetView
  pub plays : List Play
  pub built : IsFleetIn inventory fleet
  pub are : ArePlaysIn fleet playbook plays

-- the texts are refused as a plan refuses them and nothing went out; or the plan went out, and doesn't meet what the fault says; or it broke off where the fault says
abbrev pub RefusesPlan : List ℕ → List ℕ → List Expectation → Option (List ℕ) → Option (List ℕ) → ExpectFault → Type 0
RefusesPlan inventory playbook expected old new (Plan fault) = plans.IsTrueFault inventory playbook old new fault
RefusesPlan inventory playbook expected old new (Unexpected found) = MissesPlan inventory playbook expected (unexpected_shown found) old new
RefusesPlan inventory playbook expected old new Memory = AreAccepted inventory playbook × Keeps old new
