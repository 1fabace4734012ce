-- What `lint` writes of the texts of an inventory and a playbook.
use Rattle.std.specs.Prelude.{◌≡◌, ℕ, Bool, Option, List, ◌++◌}
use Rattle.std.specs.Io.KnownBytes.{Appends, Keeps}
use Rattle.bounded_io.specs.Sending.{SendsFirst}
use Rattle.group_tree.specs.Places.{Inventory}
use Rattle.inventory_read.specs.Reads as inventories
use Rattle.domains.specs.FleetViews.{FleetView}
use Rattle.domains.specs.Fleets.{IsFleetOf}
use Rattle.domains.specs.declared.pattern_fault.PatternFault.TheVariants.{NoSuchName, Memory}
use Rattle.play_model.specs.declared.play.Play.{Play}
use Rattle.plan_command.specs.PlanTexts as plans
use Rattle.plan_command.specs.PlanTexts.{ArePlaysIn, IsFleetIn, IsUnread}
use Rattle.plan_command.specs.declared.fault.PlanFault.{PlanFault}
use Rattle.plan_command.specs.declared.fault.PlanFault.TheVariants.{Read, Fleet, Playbook, Pattern, Write}
use Rattle.lint_rules.specs.Notes.{Note, told}
use Rattle.lint_rules.specs.NotesText.{IsNotesText, end_of}
use Rattle.inventory_lints.specs.Fleet.{fleet_notes}
use Rattle.lint_command.specs.AllNotes.{AreNotesOf}
use Rattle.lint_rules.specs.declared.end.LintEnd.{LintEnd}

-- the notes on the inventory and the playbook that the texts say, behind the first ones
pub record AreNotesIn (first : List Note) (inventory playbook : List ℕ) (notes : List Note) : Type 0 where
  pub says : Inventory
  pub fleet : FleetView
  pub plays : List Play
  pub reads : inventories.IsReadAs inventory says
  pub built : IsFleetOf says fleet
  pub are : ArePlaysIn fleet playbook plays
  pub notes_are : AreNotesOf first says fleet plays notes

-- the notes on the inventory alone
pub record AreFleetNotesIn (first : List Note) (inventory : List ℕ) (notes : List Note) : Type 0 where
  pub says : Inventory
  pub fleet : FleetView
  pub reads : inventories.IsReadAs inventory says
  pub built : IsFleetOf says fleet
  pub notes_are : notes ≡ first ++ fleet_notes says fleet

-- the text of those of these notes that are told, and the end with them
pub record IsTextOf (AreNotes : List Note → Type 0) (tells : Note → Bool) (text : List ℕ) (end : LintEnd) : Type 0 where
  pub notes : List Note
  pub are : AreNotes notes
  pub text_is : IsNotesText tells notes text
  pub ends : end ≡ end_of (told tells notes)

-- that text went out, and nothing else
pub record WritesNotes (AreNotes : List Note → Type 0) (tells : Note → Bool) (old new : Option (List ℕ)) (end : LintEnd) : Type 0 where
  pub text : List ℕ
  pub is : IsTextOf AreNotes tells text end
  pub written : Appends old new text

-- it broke off after so many bytes
pub record BreaksNotes (AreNotes : List Note → Type 0) (tells : Note → Bool) (old new : Option (List ℕ)) (count : ℕ) : Type 0 where
  pub text : List ℕ
  pub end : LintEnd
  pub is : IsTextOf AreNotes tells text end
  pub written : SendsFirst old new text count

-- what the fault says is true: the texts are refused as a plan refuses them, and nothing went out; or the text broke off where the fault says
abbrev pub IsTrueFault : List Note → List ℕ → List ℕ → (Note → Bool) → Option (List ℕ) → Option (List ℕ) → PlanFault → Type 0
IsTrueFault first inventory playbook tells old new (Write fault) = BreaksNotes (AreNotesIn first inventory playbook) tells old new fault.written
IsTrueFault first inventory playbook tells old new (Read fault) = plans.IsTrueFault inventory playbook old new (Read fault)
IsTrueFault first inventory playbook tells old new (Fleet fault) = plans.IsTrueFault inventory playbook old new (Fleet fault)
IsTrueFault first inventory playbook tells old new (Playbook fault) = plans.IsTrueFault inventory playbook old new (Playbook fault)
IsTrueFault first inventory playbook tells old new (Pattern fault) = plans.IsTrueFault inventory playbook old new (Pattern fault)

-- the inventory is accepted
pub record IsAccepted (inventory : List ℕ) : Type 0 where
  pub fleet : FleetView
  pub built : IsFleetIn inventory fleet

-- The same of an inventory alone. Want of memory for its notes is told as that for a pattern.
abbrev pub IsTrueFleetFault : List Note → List ℕ → (Note → Bool) → Option (List ℕ) → Option (List ℕ) → PlanFault → Type 0
IsTrueFleetFault first inventory tells old new (Write fault) = BreaksNotes (AreFleetNotesIn first inventory) tells old new fault.written
IsTrueFleetFault first inventory tells old new (Read fault) = IsUnread inventory (Read fault) × Keeps old new
IsTrueFleetFault first inventory tells old new (Fleet fault) = IsUnread inventory (Fleet fault) × Keeps old new
IsTrueFleetFault first inventory tells old new (Playbook fault) = ⊥
IsTrueFleetFault first inventory tells old new (Pattern (NoSuchName name)) = ⊥
IsTrueFleetFault first inventory tells old new (Pattern Memory) = IsAccepted inventory × Keeps old new
