use Rattle.std.proofs.Common.{◌≡◌, take}
use Rattle.group_tree.specs.Subtrees as subtrees
use Rattle.group_tree.specs.Parts.{groups_below}
use Rattle.group_tree.proofs.group.Group.+copy_to.Given as goal

abbrev pub invariant-loop-child : goal.invariant-loop-child
invariant-loop-child g l = l.copy ≡ record l.self { below = subtrees.side_by_side (take l.child-index l.child-items) }

abbrev pub decreases-copy_to : goal.decreases-copy_to
decreases-copy_to g l = groups_below l.self.now
