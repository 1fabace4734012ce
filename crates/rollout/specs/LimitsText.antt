-- What `limits` writes of an inventory's text.
use Rattle.std.specs.Prelude.{ℕ, ◌≤◌, Option, List, length}
use Rattle.std.specs.Io.KnownBytes.{Appends, Keeps}
use Rattle.bounded_io.specs.Sending.{SendsFirst}
use Rattle.group_tree.specs.Places.{Inventory}
use Rattle.inventory_read.specs.Reads.{IsReadAs, IsTrueOf}
use Rattle.domains.specs.Hosts.{hosts_of}
use Rattle.domains.specs.Nested.{IsNested}
use Rattle.domains.specs.Starts.{StartsWithin}
use Rattle.domains.specs.Faults.{IsFaultOf, hosts_bound}
use Rattle.domains.specs.declared.fault.FleetFault.{FleetFault}
use Rattle.domains.specs.FleetViews.{FleetView}
use Rattle.domains.specs.Fleets.{IsFleetOf}
use Rattle.recap.specs.LimitsTable.{limits_table}
use Rattle.rollout.specs.declared.fault.Fault.{Fault}
use Rattle.rollout.specs.declared.fault.Fault.TheVariants.{Line, Input, Read, Fleet, Playbook, Pattern, Mixed, LongLine, JournalThere, JournalWrite, ChildrenIgnored, Stopped, Locked, BadJournal, OtherInputs, NeedsResult, OutputIsInput, NoValue, BadPlan, Unexpected, BadList, Write, Memory}

-- the text says this inventory, which has no more hosts than a fleet may have; its limited groups lie inside each other
-- wherever they share a host, and none has more hosts down than its limit when a run starts
pub record IsAcceptedAs (text : List ℕ) (inventory : Inventory) : Type 0 where
  pub reads : IsReadAs text inventory
  pub few_hosts : length (hosts_of inventory) ≤ hosts_bound
  pub nested : IsNested inventory
  pub starts_within : StartsWithin inventory

-- the table of the inventory that the text says went out, and nothing else
pub record WritesTable (text : List ℕ) (old new : Option (List ℕ)) : Type 0 where
  pub inventory : Inventory
  pub accepted : IsAcceptedAs text inventory
  pub written : Appends old new (limits_table inventory)

-- the table broke off after so many bytes
pub record BreaksTable (text : List ℕ) (old new : Option (List ℕ)) (count : ℕ) : Type 0 where
  pub inventory : Inventory
  pub accepted : IsAcceptedAs text inventory
  pub written : SendsFirst old new (limits_table inventory) count

-- the text says an inventory of which the fault is true
pub record IsNoFleet (text : List ℕ) (fault : FleetFault) : Type 0 where
  pub inventory : Inventory
  pub reads : IsReadAs text inventory
  pub refused : IsFaultOf inventory fault

-- what the fault says is true of the text, and nothing went out; or the table broke off where it says
abbrev pub IsTrueFault : List ℕ → Option (List ℕ) → Option (List ℕ) → Fault → Type 0
IsTrueFault text old new (Read fault) = IsTrueOf text fault × Keeps old new
IsTrueFault text old new (Fleet fault) = IsNoFleet text fault × Keeps old new
IsTrueFault text old new (Write fault) = BreaksTable text old new fault.written
IsTrueFault text old new Memory = Keeps old new
IsTrueFault text old new (Playbook fault) = ⊥
IsTrueFault text old new (Pattern fault) = ⊥
IsTrueFault text old new Mixed = ⊥
IsTrueFault text old new LongLine = ⊥
IsTrueFault text old new ChildrenIgnored = ⊥
IsTrueFault text old new JournalThere = ⊥
IsTrueFault text old new JournalWrite = ⊥
IsTrueFault text old new Stopped = ⊥
IsTrueFault text old new Locked = ⊥
IsTrueFault text old new (BadJournal line) = ⊥
IsTrueFault text old new OtherInputs = ⊥
IsTrueFault text old new (NeedsResult name) = ⊥
IsTrueFault text old new (OutputIsInput name) = ⊥
IsTrueFault text old new (NoValue missing) = ⊥
IsTrueFault text old new (BadPlan line) = ⊥
IsTrueFault text old new (Unexpected found) = ⊥
IsTrueFault text old new (BadList list) = ⊥
IsTrueFault text old new (Line fault) = ⊥
IsTrueFault text old new (Input source fault) = ⊥

-- the fleet is that of the inventory which the text says
pub record IsFleetIn (text : List ℕ) (fleet : FleetView) : Type 0 where
  pub inventory : Inventory
  pub reads : IsReadAs text inventory
  pub built : IsFleetOf inventory fleet

-- what refuses the text before anything is written
abbrev pub IsUnread : List ℕ → Fault → Type 0
IsUnread text (Read fault) = IsTrueOf text fault
IsUnread text (Fleet fault) = IsNoFleet text fault
IsUnread text Memory = Unit {0}
IsUnread text (Write fault) = ⊥
IsUnread text (Playbook fault) = ⊥
IsUnread text (Pattern fault) = ⊥
IsUnread text Mixed = ⊥
IsUnread text LongLine = ⊥
IsUnread text ChildrenIgnored = ⊥
IsUnread text JournalThere = ⊥
IsUnread text JournalWrite = ⊥
IsUnread text Stopped = ⊥
IsUnread text Locked = ⊥
IsUnread text (BadJournal line) = ⊥
IsUnread text OtherInputs = ⊥
IsUnread text (NeedsResult name) = ⊥
IsUnread text (OutputIsInput name) = ⊥
IsUnread text (NoValue missing) = ⊥
IsUnread text (BadPlan line) = ⊥
IsUnread text (Unexpected found) = ⊥
IsUnread text (BadList list) = ⊥
IsUnread text (Line fault) = ⊥
IsUnread text (Input source fault) = ⊥
