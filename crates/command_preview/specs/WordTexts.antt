-- What is written of the words of both texts, of an inventory and of a playbook.
use Rattle.std.specs.Prelude.{◌≡◌, ◌⊎◌, ℕ, nat_lt, Option, List, ◌++◌, length}
use Rattle.std.specs.Io.KnownBytes.{Appends, Keeps}
use Rattle.bounded_io.specs.Sending.{SendsFirst}
use Rattle.group_tree.specs.Places.{Inventory}
use Rattle.inventory_read.specs.Reads as inventories
use Rattle.domains.specs.FleetViews.{FleetView}
use Rattle.domains.specs.Fleets.{IsFleetOf}
use Rattle.domains.specs.declared.pattern_fault.PatternFault.{PatternFault}
use Rattle.domains.specs.declared.pattern_fault.PatternFault.TheVariants.{Memory}
use Rattle.host_vars.specs.Layers.{HostView}
use Rattle.host_vars.specs.Shared.{AreHostsOf}
use Rattle.play_model.specs.declared.play.Play.{Play}
use Rattle.plan_command.specs.PlanTexts.{ArePlaysIn, IsRefusedAfter, IsUnread}
use Rattle.plan_command.specs.declared.fault.PlanFault.{PlanFault}
use Rattle.plan_command.specs.declared.fault.PlanFault.TheVariants.{Read, Fleet, Playbook, Pattern, Write}
use Rattle.command_preview.specs.Lines.{end_of, lines_of_plays, plays_text}
use Rattle.command_preview.specs.declared.end.WordsEnd.{WordsEnd}

-- both texts are accepted, and say the fleet, its hosts with their variables, and the plays
pub record AreRead (inventory playbook : List ℕ) (fleet : FleetView) (views : List HostView) (plays : List Play) : Type 0 where
  pub places : Inventory
  pub reads : inventories.IsReadAs inventory places
  pub built : IsFleetOf places fleet
  pub variables : AreHostsOf places fleet.hosts views
  pub says : ArePlaysIn fleet playbook plays

-- the text of the words of all plays, and how telling them ends
pub record IsWordsText (inventory playbook : List ℕ) (text : List ℕ) (end : WordsEnd) : Type 0 where
  pub fleet : FleetView
  pub views : List HostView
  pub plays : List Play
  pub read : AreRead inventory playbook fleet views plays
  pub text_is : text ≡ plays_text (nat_lt 1 (length plays)) (lines_of_plays fleet views plays)
  pub ends : end ≡ end_of (lines_of_plays fleet views plays)

-- the text went out, and nothing else
pub record WritesWords (inventory playbook : List ℕ) (old new : Option (List ℕ)) (end : WordsEnd) : Type 0 where
  pub text : List ℕ
  pub is : IsWordsText inventory playbook text end
  pub written : Appends old new text

-- it broke off after so many bytes
pub record BreaksWords (inventory playbook : List ℕ) (old new : Option (List ℕ)) (count : ℕ) : Type 0 where
  pub text : List ℕ
  pub end : WordsEnd
  pub is : IsWordsText inventory playbook text end
  pub written : SendsFirst old new text count

-- a front of it went out, and then memory was wanting
pub record BeginsWords (inventory playbook : List ℕ) (old new : Option (List ℕ)) (fault : PatternFault) : Type 0 where
  pub text : List ℕ
  pub end : WordsEnd
  pub is : IsWordsText inventory playbook text end
  pub wanting : fault ≡ Memory
  pub front : List ℕ
  pub rest : List ℕ
  pub parts : text ≡ front ++ rest
  pub written : Appends old new front

-- the inventory is refused so, or it is accepted and the playbook is
abbrev pub IsRefused : List ℕ → List ℕ → PlanFault → Type 0
IsRefused inventory playbook (Read fault) = IsUnread inventory (Read fault)
IsRefused inventory playbook (Fleet fault) = IsUnread inventory (Fleet fault)
IsRefused inventory playbook (Playbook fault) = IsRefusedAfter inventory playbook (Playbook fault)
IsRefused inventory playbook (Pattern fault) = IsRefusedAfter inventory playbook (Pattern fault)
IsRefused inventory playbook (Write fault) = ⊥

-- what the fault says is true and nothing went out; or the text broke off where the fault says, or for want of memory
abbrev pub IsTrueFault : List ℕ → List ℕ → Option (List ℕ) → Option (List ℕ) → PlanFault → Type 0
IsTrueFault inventory playbook old new (Read fault) = IsRefused inventory playbook (Read fault) × Keeps old new
IsTrueFault inventory playbook old new (Fleet fault) = IsRefused inventory playbook (Fleet fault) × Keeps old new
IsTrueFault inventory playbook old new (Playbook fault) = IsRefused inventory playbook (Playbook fault) × Keeps old new
IsTrueFault inventory playbook old new (Pattern fault) =
    (IsRefused inventory playbook (Pattern fault) × Keeps old new) ⊎ BeginsWords inventory playbook old new fault
IsTrueFault inventory playbook old new (Write fault) = BreaksWords inventory playbook old new fault.written
