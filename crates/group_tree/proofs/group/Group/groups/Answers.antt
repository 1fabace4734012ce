use Rattle.std.proofs.Common.{◌≡◌, true, subst}
use Rattle.group_tree.specs.Places.{is_preorder}
use Rattle.group_tree.specs.Subtrees.{Subtree}
use Rattle.group_tree.proofs.Preorder.{is_preorder-places_of}
use Rattle.group_tree.proofs.group.Group.groups.Goals as goal

pub returns-clause-preorder : goal.returns-clause-preorder
returns-clause-preorder g c =
    is_preorder-places_of c.args.self.now (subst (λ (group : Subtree). is_preorder group.below.places ≡ true) c.self.view_is c.self.invariant.preorder)
