use Rattle.std.proofs.Common.{◌∙◌, ◌<◌, None, length, sym, ap, arith}
use Rattle.std.proofs.lemmas.List.{get_or_default}
use Rattle.domains.specs.FleetViews.{FleetView}
use Rattle.domains.proofs.fleet.Fleet.parent.Goals as goal

pub returns-in-Some-clause-before : goal.returns-in-Some-clause-before
returns-in-Some-clause-before c =
    let parents = c.self.inside.parents.items in
    let inside : c.args.group.index < length parents = omega (arith, c.self.invariant.sound.all_parents, c.requires, ap (λ (f : FleetView). length f.groups) c.self.view_is) in
    c.self.invariant.sound.parents_before c.args.group.index c.in-Some.index (sym (get_or_default parents c.args.group.index c.index.result.now None inside) ∙ sym c.index.ensures ∙ c.in-Some.is)
