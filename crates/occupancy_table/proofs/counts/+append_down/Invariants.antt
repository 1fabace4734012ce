use Rattle.std.proofs.Common.{◌≡◌, ◌++◌, length, map, take}
use Rattle.batch_plan.specs.Nodes.{Node, side_by_side}
use Rattle.occupancy_table.proofs.counts.+append_down.Given as goal

abbrev pub decreases-append_down : goal.decreases-append_down
decreases-append_down g l = length (side_by_side l.trees.now)

abbrev pub invariant-loop-tree : goal.invariant-loop-tree
invariant-loop-tree g l = l.counts.items ≡ l.initial.counts.items ++ map (λ (node : Node). node.down) (side_by_side (take l.tree-index l.trees))
