use Rattle.std.proofs.Common.{◌≡◌, true, map, drop}
use Rattle.std.specs.List.{flat_map}
use Rattle.group_tree.specs.Subtrees.{inventory_of, beside}
use Rattle.inventory_read.specs.Documents.{groups_from, under}
use Rattle.inventory_read.specs.Listings.{child_of}
use Rattle.inventory_read.specs.Named.{are_named}
use Rattle.inventory_read.specs.Values.{inventory_from}
use Rattle.inventory_read.proofs.build.build_all.Given as goal

abbrev pub invariant-loop-child : goal.invariant-loop-child
invariant-loop-child g l = record {
  named : l.group.name ≡ l.initial.group.name;
  built : beside (inventory_of l.group) (inventory_from (map (under l.group.name) (flat_map groups_from (map child_of (drop l.child-index l.children)))))
      ≡ beside (inventory_of l.initial.group) (inventory_from (map (under l.initial.group.name) (flat_map groups_from (map child_of l.children))));
  names : are_named (flat_map groups_from (map child_of (drop l.child-index l.children))) ≡ true;
}
