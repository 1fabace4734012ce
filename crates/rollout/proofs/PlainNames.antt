-- The fleet of an inventory as it was read has plain names.
use Rattle.std.proofs.Common.{ℕ, List}
use Rattle.domains.specs.FleetViews.{FleetView}
use Rattle.journal.specs.Names.{HasPlainNames}
use Rattle.plan_occupancy.proofs.PlainNames.{groups_are_plain, hosts_are_plain}
use Rattle.rollout.specs.LimitsText.{IsFleetIn}

pub names_are_plain : (text : List ℕ) (fleet : FleetView) → IsFleetIn text fleet → HasPlainNames fleet
names_are_plain text fleet is = record {
  hosts = hosts_are_plain text is.inventory fleet is.reads is.built;
  groups = groups_are_plain text is.inventory fleet is.reads is.built;
}
