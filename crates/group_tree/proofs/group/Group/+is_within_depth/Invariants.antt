use Rattle.std.proofs.Common.{◌≡◌, ◌-◌, true, take}
use Rattle.std.specs.List.{list_all}
use Rattle.group_tree.specs.Subtrees.{places_of}
use Rattle.group_tree.specs.Bounds.{are_within_depth}
use Rattle.group_tree.specs.Parts.{groups_below}
use Rattle.group_tree.proofs.group.Group.+is_within_depth.Given as goal

abbrev pub invariant-loop-child : goal.invariant-loop-child
invariant-loop-child g l =
    list_all (λ child. are_within_depth (l.depth - 1) (places_of child)) (take l.child-index l.child-items) ≡ true

abbrev pub decreases-is_within_depth : goal.decreases-is_within_depth
decreases-is_within_depth g l = groups_below l.self.now
