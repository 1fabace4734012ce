use Rattle.std.proofs.Common.{◌-◌}
use Rattle.group_tree.specs.Parts.{groups_below}
use Rattle.group_tree.proofs.Nth.{IsAtChild}
use Rattle.group_tree.proofs.group.Group.+nth.Given as goal

abbrev pub invariant-loop-child : goal.invariant-loop-child
invariant-loop-child g l = IsAtChild l.child-items l.child-index l.left (l.index - 1)

abbrev pub decreases-nth : goal.decreases-nth
decreases-nth g l = groups_below l.self.now
