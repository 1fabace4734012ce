use Rattle.std.proofs.Common.{◌≡◌, false, take}
use Rattle.std.specs.List.{list_any}
use Rattle.group_tree.specs.Members as members
use Rattle.group_tree.specs.Subtrees as subtrees
use Rattle.group_tree.specs.Parts.{groups_below}
use Rattle.group_tree.proofs.group.Group.+lists.Given as goal

abbrev pub invariant-loop-child : goal.invariant-loop-child
invariant-loop-child g l =
    list_any (λ child. list_any (members.is_of l.host) (subtrees.rows_of child)) (take l.child-index l.child-items) ≡ false

abbrev pub decreases-lists : goal.decreases-lists
decreases-lists g l = groups_below l.self.now
