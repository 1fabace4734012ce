use Rattle.std.proofs.Common.{◌≡◌, ◌-◌, take, drop}
use Rattle.group_tree.specs.Names.{is_among}
use Rattle.group_tree.specs.Subtrees.{side_by_side}
use Rattle.group_tree.specs.Bounds.{group_names}
use Rattle.group_tree.specs.Parts.{groups_below}
use Rattle.group_tree.proofs.group.Group.+names_within.Given as goal

abbrev pub invariant-loop-child : goal.invariant-loop-child
invariant-loop-child g l =
    is_among l.name (take l.left (group_names (side_by_side (drop l.child-index l.child-items)).places)) ≡ is_among l.name (take (l.count - 1) (group_names (side_by_side l.child-items).places))

abbrev pub decreases-names_within : goal.decreases-names_within
decreases-names_within g l = groups_below l.self.now
