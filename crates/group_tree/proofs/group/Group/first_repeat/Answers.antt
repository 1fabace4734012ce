use Rattle.std.proofs.Common.{◌<◌, length, sym, ◌∙◌, arith}
use Rattle.std.proofs.lemmas.List.{length-map}
use Rattle.group_tree.specs.Places.{Place}
use Rattle.group_tree.specs.Subtrees.{places_of}
use Rattle.group_tree.specs.Bounds.{group_names}
use Rattle.group_tree.proofs.Repeats.{are_distinct-more}
use Rattle.group_tree.proofs.group.Group.first_repeat.Goals as goal

pub loop-index-preserved : goal.loop-index-preserved
loop-index-preserved g c =
    let names = group_names (places_of c.args.self.now) in
    let within : c.loop-index.index < length names = omega (arith, c.groups-index-end.ensures.count, length-map (places_of c.args.self.now) (λ (place : Place). place.name)) in
    are_distinct-more names c.loop-index.index within c.loop-index.invariant (sym c.is_repeat.ensures ∙ c.if-is_repeat.false)
