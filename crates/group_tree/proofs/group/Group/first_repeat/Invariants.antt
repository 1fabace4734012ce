use Rattle.std.proofs.Common.{◌≡◌, true, take}
use Rattle.group_tree.specs.Names.{are_distinct}
use Rattle.group_tree.specs.Subtrees.{places_of}
use Rattle.group_tree.specs.Bounds.{group_names}
use Rattle.group_tree.proofs.group.Group.first_repeat.Given as goal

abbrev pub invariant-loop-index : goal.invariant-loop-index
invariant-loop-index g l = are_distinct (take l.index (group_names (places_of l.self))) ≡ true
