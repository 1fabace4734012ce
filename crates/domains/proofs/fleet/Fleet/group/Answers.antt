use Rattle.std.proofs.Common.{◌∙◌, position, Global, sym, ap}
use Rattle.std.specs.String.{string_bytes}
use Rattle.group_tree.specs.Names.{same_name}
use Rattle.domains.specs.FleetViews.{FleetView}
use Rattle.domains.proofs.NameLemmas.{position_of_map, position_found}
use Rattle.domains.proofs.fleet.Fleet.group.Goals as goal

pub returns-in-Some-clause-named : goal.returns-in-Some-clause-named
returns-in-Some-clause-named c =
    let name = c.args.name.now in
    let shown = ap (λ (f : FleetView). position (same_name name) f.groups) c.self.view_is in
    position_found name c.args.self.now.groups c.in-Some.index (sym (c.in-Some.ensures.index ∙ sym (position_of_map (same_name name) (string_bytes {Z = Global}) c.self.inside.groups.keys) ∙ shown))
