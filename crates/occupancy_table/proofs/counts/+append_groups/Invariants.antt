use Rattle.std.proofs.Common.{◌≡◌, ◌++◌, length, map, take}
use Rattle.domains.specs.Ids.{group_numbers}
use Rattle.batch_plan.specs.Nodes.{Node, side_by_side}
use Rattle.occupancy_table.proofs.counts.+append_groups.Given as goal

abbrev pub decreases-append_groups : goal.decreases-append_groups
decreases-append_groups g l = length (side_by_side l.trees.now)

abbrev pub invariant-loop-tree : goal.invariant-loop-tree
invariant-loop-tree g l = group_numbers l.groups.items ≡ group_numbers l.initial.groups.items ++ map (λ (node : Node). node.group) (side_by_side (take l.tree-index l.trees))
