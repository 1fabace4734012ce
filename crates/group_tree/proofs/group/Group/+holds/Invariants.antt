use Rattle.std.proofs.Common.{◌≡◌, false, take}
use Rattle.std.specs.List.{list_any}
use Rattle.group_tree.specs.Members as members
use Rattle.group_tree.specs.Subtrees as subtrees
use Rattle.group_tree.specs.Parts.{groups_below}
use Rattle.group_tree.proofs.group.Group.+holds.Given as goal

abbrev pub invariant-loop-child : goal.invariant-loop-child
invariant-loop-child g l =
    list_any (λ child. members.holds (subtrees.inventory_of child) l.group l.host) (take l.child-index l.child-items) ≡ false

abbrev pub decreases-holds : goal.decreases-holds
decreases-holds g l = groups_below l.self.now
