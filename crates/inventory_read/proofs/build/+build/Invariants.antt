use Rattle.std.proofs.Common.{◌≡◌, ◌≤◌, true, map}
use Rattle.serde_json.specs.Data.{depth, members_depth}
use Rattle.serde_json.specs.View.{view, members_view}
use Rattle.group_tree.specs.Subtrees.{inventory_of, beside}
use Rattle.inventory_read.specs.Documents.{groups_among, under}
use Rattle.inventory_read.specs.Named.{are_named}
use Rattle.inventory_read.specs.Values.{inventory_from}
use Rattle.inventory_read.proofs.build.+build.Given as goal

abbrev pub invariant-loop-name : goal.invariant-loop-name
invariant-loop-name g l = record {
  named : l.group.name ≡ l.initial.group.name;
  built : beside (inventory_of l.group) (inventory_from (map (under l.group.name) (groups_among (members_view l.name-iterator))))
      ≡ beside (inventory_of l.initial.group) (inventory_from (map (under l.initial.group.name) (groups_among (members_view l.initial.name-iterator))));
  names : are_named (groups_among (members_view l.name-iterator)) ≡ true;
  nested : members_depth (members_view l.name-iterator) ≤ members_depth (members_view l.initial.name-iterator);
}

abbrev pub decreases-build : goal.decreases-build
decreases-build g l = depth (view l.body.now)
