use Rattle.std.proofs.Common.{◌≡◌, ℕ, ◌+◌, ◌++◌, List, take, length}
use Rattle.group_tree.specs.Subtrees.{Subtree, side_by_side}
use Rattle.domains.specs.Walks.{IsWalkOf}
use Rattle.domains.specs.Walked.{walked_groups}
use Rattle.domains.proofs.walk.+list_walk.Given as goal

abbrev pub invariant-loop-child : goal.invariant-loop-child
invariant-loop-child g l =
    (walk : List (Subtree × ℕ))
    × (walked_groups l.groups.items ≡ walked_groups l.initial.groups.items ++ walk)
    × IsWalkOf (side_by_side (take l.child-index l.child-items)) (l.depth + 1) walk

abbrev pub decreases-list_walk : goal.decreases-list_walk
decreases-list_walk g l = length l.group.now.below.places
