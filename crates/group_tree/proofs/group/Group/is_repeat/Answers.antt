use Rattle.std.proofs.Common.{take, ap, ◌∙◌}
use Rattle.group_tree.specs.Names.{is_among}
use Rattle.group_tree.specs.Subtrees.{places_of, inventory_of}
use Rattle.group_tree.specs.Bounds.{group_names}
use Rattle.group_tree.proofs.Repeats.{IsGroupAt-name}
use Rattle.group_tree.proofs.group.Group.is_repeat.Goals as goal

pub returns-in-Some : goal.returns-in-Some
returns-in-Some g c =
    let named = c.name.ensures ∙ IsGroupAt-name (inventory_of c.args.self.now) c.args.index c.in-Some.group.now _ c.in-Some.ensures.at in
    c.names_within.ensures ∙ ap (λ name. is_among name (take c.args.index (group_names (places_of c.args.self.now)))) named
