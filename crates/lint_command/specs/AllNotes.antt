-- All notes on an inventory and its plays.
use Rattle.std.specs.Prelude.{◌≡◌, ℕ, Option, List, ◌++◌}
use Rattle.group_tree.specs.Names.{Name, is_among}
use Rattle.group_tree.specs.Places.{Inventory}
use Rattle.domains.specs.FleetViews.{FleetView}
use Rattle.host_vars.specs.Layers.{HostView}
use Rattle.host_vars.specs.Shared.{AreHostsOf}
use Rattle.play_model.specs.declared.play.Play.{Play}
use Rattle.lint_rules.specs.Notes.{Note}
use Rattle.step_lints.specs.Given.{is_given}
use Rattle.lint_command.specs.Near.{all_with_near, compared_names}
use Rattle.step_lints.specs.Hosts.{foreseen_of, value_of}
use Rattle.lint_command.specs.Batches.{AreSmallestOf}
use Rattle.inventory_lints.specs.Fleet.{fleet_notes}
use Rattle.lint_command.specs.Playbooks.{plays_notes}

-- The notes on these plays, for a fleet of this inventory whose hosts have the variables that the inventory gives them: after the first ones those on groups and hosts, then play by play. A play's
-- smallest batch is that of the plan with which it begins. A name that is read is compared with the host's own, with those that are given, in some order, and with those that steps register.
pub record AreNotesOf (first : List Note) (inventory : Inventory) (fleet : FleetView) (plays : List Play) (notes : List Note) : Type 0 where
  pub hosts : List HostView
  pub are : AreHostsOf inventory fleet.hosts hosts
  pub sizes : List (Option ℕ)
  pub sizes_are : AreSmallestOf fleet plays sizes
  pub given : List Name
  pub gives : (name : Name) → is_among name given ≡ is_given inventory name
  pub notes_are : notes
      ≡ all_with_near (compared_names given plays) ((first ++ fleet_notes inventory fleet) ++ plays_notes fleet (value_of hosts) (is_given inventory) (foreseen_of fleet plays hosts) sizes plays)
