-- What `plan` writes of the texts of an inventory and a playbook.
use Rattle.std.specs.Prelude.{◌≡◌, ℕ, Option, None, List, ◌∷◌}
use Rattle.std.specs.List.{find}
use Rattle.std.specs.Io.KnownBytes.{Appends, Keeps}
use Rattle.bounded_io.specs.Sending.{SendsFirst}
use Rattle.group_tree.specs.Places.{Inventory}
use Rattle.inventory_read.specs.Reads as inventories
use Rattle.domains.specs.Faults.{IsFaultOf}
use Rattle.domains.specs.FleetViews.{FleetView}
use Rattle.domains.specs.Fleets.{IsFleetOf}
use Rattle.domains.specs.Patterns.{IsPatternFault, names_nothing}
use Rattle.domains.specs.declared.fault.FleetFault.{FleetFault}
use Rattle.domains.specs.declared.pattern_fault.PatternFault.{PatternFault}
use Rattle.play_model.specs.declared.play.Play.{Play}
use Rattle.play_read.specs.Reads as playbooks
use Rattle.play_forecast.specs.PlayPlans.{IsPlanOf, named_parts}
use Rattle.batch_plan.specs.declared.answers.Answer.{Answer}
use Rattle.recap.specs.PlanText.{plan_text}
use Rattle.plan_command.specs.Ends.{end_of}
use Rattle.plan_command.specs.declared.end.End.{End}
use Rattle.plan_command.specs.declared.fault.PlanFault.{PlanFault}
use Rattle.plan_command.specs.declared.fault.PlanFault.TheVariants.{Read, Fleet, Playbook, Pattern, Write}

-- the fleet is that of the inventory which the text says
pub record IsFleetIn (text : List ℕ) (fleet : FleetView) : Type 0 where
  pub inventory : Inventory
  pub reads : inventories.IsReadAs text inventory
  pub built : IsFleetOf inventory fleet

-- the text says an inventory of which the fault is true
pub record IsNoFleet (text : List ℕ) (fault : FleetFault) : Type 0 where
  pub inventory : Inventory
  pub reads : inventories.IsReadAs text inventory
  pub refused : IsFaultOf inventory fault

-- what refuses an inventory's text
abbrev pub IsUnread : List ℕ → PlanFault → Type 0
IsUnread text (Read fault) = inventories.IsTrueOf text fault
IsUnread text (Fleet fault) = IsNoFleet text fault
IsUnread text (Playbook fault) = ⊥
IsUnread text (Pattern fault) = ⊥
IsUnread text (Write fault) = ⊥

-- the plays are those that the text says, and each part of each play's pattern names a host or a group
pub record ArePlaysIn (fleet : FleetView) (text : List ℕ) (plays : List Play) : Type 0 where
  pub reads : playbooks.IsReadAs 16 text plays
  pub known : find (names_nothing fleet) (named_parts plays) ≡ None

-- each part of each play's pattern names a host or a group, and this is the plan of the first
pub record IsFirstPlan (fleet : FleetView) (plays : List Play) (answer : Answer) (held : List ℕ) : Type 0 where
  pub first : Play
  pub others : List Play
  pub are : plays ≡ first ∷ others
  pub known : find (names_nothing fleet) (named_parts plays) ≡ None
  pub plan : IsPlanOf fleet first answer held

-- the same of the plays that the text says
pub record IsPlaybookPlan (fleet : FleetView) (text : List ℕ) (answer : Answer) (held : List ℕ) : Type 0 where
  pub plays : List Play
  pub reads : playbooks.IsReadAs 16 text plays
  pub plan : IsFirstPlan fleet plays answer held

-- the text is a playbook, and the first part of its patterns that names nothing is the fault's
pub record IsNoTarget (fleet : FleetView) (text : List ℕ) (fault : PatternFault) : Type 0 where
  pub plays : List Play
  pub reads : playbooks.IsReadAs 16 text plays
  pub refused : IsPatternFault fleet (named_parts plays) fault

-- what refuses a playbook's text, its own faults before those of patterns
abbrev pub IsPlaybookFault : FleetView → List ℕ → PlanFault → Type 0
IsPlaybookFault fleet text (Playbook fault) = playbooks.IsTrueOf 16 text fault
IsPlaybookFault fleet text (Pattern fault) = IsNoTarget fleet text fault
IsPlaybookFault fleet text (Read fault) = ⊥
IsPlaybookFault fleet text (Fleet fault) = ⊥
IsPlaybookFault fleet text (Write fault) = ⊥

-- the plan of the playbook's first play on the fleet of the inventory, as the two texts say them
pub record IsPlanIn (inventory playbook : List ℕ) (fleet : FleetView) (answer : Answer) (held : List ℕ) : Type 0 where
  pub built : IsFleetIn inventory fleet
  pub plan : IsPlaybookPlan fleet playbook answer held

-- the text of the plan of both texts, and how planning ends
pub record IsPlanText (inventory playbook : List ℕ) (text : List ℕ) (end : End) : Type 0 where
  pub fleet : FleetView
  pub answer : Answer
  pub held : List ℕ
  pub plan : IsPlanIn inventory playbook fleet answer held
  pub text_is : text ≡ plan_text fleet answer held
  pub ends : end ≡ end_of answer held

-- the text of the plan went out, and nothing else
pub record WritesPlan (inventory playbook : List ℕ) (old new : Option (List ℕ)) (end : End) : Type 0 where
  pub text : List ℕ
  pub is : IsPlanText inventory playbook text end
  pub written : Appends old new text

-- the text of the plan broke off after so many bytes
pub record BreaksPlan (inventory playbook : List ℕ) (old new : Option (List ℕ)) (count : ℕ) : Type 0 where
  pub text : List ℕ
  pub end : End
  pub is : IsPlanText inventory playbook text end
  pub written : SendsFirst old new text count

-- the inventory is accepted, and the playbook is refused so
pub record IsRefusedAfter (inventory playbook : List ℕ) (fault : PlanFault) : Type 0 where
  pub fleet : FleetView
  pub built : IsFleetIn inventory fleet
  pub refused : IsPlaybookFault fleet playbook fault

-- what the fault says is true and nothing went out: the inventory is refused so, or it is accepted and the playbook is; or
-- the text of the plan broke off where the fault says
abbrev pub IsTrueFault : List ℕ → List ℕ → Option (List ℕ) → Option (List ℕ) → PlanFault → Type 0
IsTrueFault inventory playbook old new (Read fault) = IsUnread inventory (Read fault) × Keeps old new
IsTrueFault inventory playbook old new (Fleet fault) = IsUnread inventory (Fleet fault) × Keeps old new
IsTrueFault inventory playbook old new (Playbook fault) = IsRefusedAfter inventory playbook (Playbook fault) × Keeps old new
IsTrueFault inventory playbook old new (Pattern fault) = IsRefusedAfter inventory playbook (Pattern fault) × Keeps old new
IsTrueFault inventory playbook old new (Write fault) = BreaksPlan inventory playbook old new fault.written
