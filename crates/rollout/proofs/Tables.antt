-- The table of a fleet is that of the inventory which the text says.
use Rattle.std.proofs.Common.{ℕ, ◌≤◌, Option, List, length, subst}
use Rattle.std.specs.Io.KnownBytes.{Appends}
use Rattle.bounded_io.specs.Sending.{SendsFirst}
use Rattle.group_tree.specs.Names.{Name}
use Rattle.domains.specs.Faults.{hosts_bound}
use Rattle.domains.specs.FleetViews.{FleetView}
use Rattle.recap.specs.LimitsTable.{fleet_table}
use Rattle.recap.proofs.LimitsLemmas.{fleet_table-limits_table}
use Rattle.rollout.specs.LimitsText.{IsFleetIn, IsAcceptedAs, WritesTable, BreaksTable}

accepted : (text : List ℕ) (fleet : FleetView) → (read : IsFleetIn text fleet) → IsAcceptedAs text read.inventory
accepted text fleet read = record {
  reads = read.reads;
  few_hosts = subst (λ (hosts : List Name). length hosts ≤ hosts_bound) read.built.hosts read.built.sound.few_hosts;
  nested = read.built.nested;
  starts_within = read.built.starts_within;
}

pub WritesTable-of_fleet : (text : List ℕ) (fleet : FleetView) (old new : Option (List ℕ)) → IsFleetIn text fleet → Appends old new (fleet_table fleet) → WritesTable text old new
WritesTable-of_fleet text fleet old new read went = record {
  inventory = read.inventory;
  accepted = accepted text fleet read;
  written = subst (λ table. Appends old new table) (fleet_table-limits_table read.inventory fleet read.built) went;
}

pub BreaksTable-of_fleet : (text : List ℕ) (fleet : FleetView) (old new : Option (List ℕ)) (count : ℕ)
    → IsFleetIn text fleet → SendsFirst old new (fleet_table fleet) count → BreaksTable text old new count
BreaksTable-of_fleet text fleet old new count read went = record {
  inventory = read.inventory;
  accepted = accepted text fleet read;
  written = subst (λ table. SendsFirst old new table count) (fleet_table-limits_table read.inventory fleet read.built) went;
}
