use Rattle.std.proofs.Common.{subst}
use Rattle.group_tree.specs.Subtrees.{Subtree}
use Rattle.group_tree.specs.Parts.{IsWellFormed}
use Rattle.group_tree.proofs.WellFormed.{IsWellFormed-with_child}
use Rattle.group_tree.proofs.group.Group.add_child.Goals as goal

pub invariant_of-self-2 : goal.invariant_of-self-2
invariant_of-self-2 g c =
    let own = subst (λ (child : Subtree). IsWellFormed child.below child.hosts c.child.inside.groups c.child.inside.rows) c.child.view_is c.child.invariant in
    IsWellFormed-with_child c.self.inside.children.items c.push.new.self.items c.args.child c.self.inside.hosts.items c.self.inside.groups
    c.self.inside.rows c.child.inside.groups c.child.inside.rows c.in-Some.groups c.in-Some-checked_add.rows c.self.invariant own
    c.in_ok-push.ensures.items c.in-Some.ensures.1 c.in-Some-checked_add.ensures.1
