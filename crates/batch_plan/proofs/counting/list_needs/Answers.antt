use Rattle.std.proofs.Common.{◌≡◌, ℕ, ◌<◌, None, Option, List, length, get_or, replicate, ap, ◌∙◌, arith}
use Rattle.std.proofs.lemmas.List.{get_or-replicate, length-replicate, with_items_is}
use Rattle.batch_plan.specs.Nodes.{Node, side_by_side}
use Rattle.batch_plan.specs.Counts.{nodes_at}
use Rattle.domains.specs.FleetViews.{FleetView}
use Rattle.batch_plan.specs.declared.needs.Need.{Need}
use Rattle.batch_plan.specs.Inside.{told_by}
use Rattle.batch_plan.proofs.ToldLemmas.{needs_told}
use Rattle.batch_plan.proofs.counting.list_needs.Goals as goal

pub returns-clause-needs : goal.returns-clause-needs
returns-clause-needs g c =
    let counted = c.args.domains.now in
    let new = c.record_all.new.needs in
    let begun = c.as_mut_slice.result.now in
    let items : c.in_ok-needs.needs.items ≡ replicate c.groups.result None = c.in_ok-needs.ensures in
    let untold : begun ≡ replicate c.groups.result None = c.as_mut_slice.ensures.value ∙ items in
    let fleet : c.fleet-fleet.result.now ≡ counted.fleet = c.fleet-fleet.ensures in
    let count : c.groups.result ≡ length counted.fleet.groups = c.groups.ensures.count ∙ ap (λ (f : FleetView). length f.groups) fleet in
    let same : length begun ≡ c.groups.result = ap length untold ∙ length-replicate c.groups.result None in
    let long : length new ≡ length counted.fleet.groups = c.record_all.ensures.len ∙ same ∙ count in
    let none : (group : ℕ) → group < length new → get_or begun group None ≡ None =
    λ group l. ap (λ (xs : List (Option Need)). get_or xs group None) untold ∙ get_or-replicate c.groups.result group None None (omega (arith, l, c.record_all.ensures.len, same)) in
    let told : (group : ℕ) → group < length new → get_or new group None ≡ told_by counted.fleet.limits (nodes_at counted) group None =
    λ group l. c.record_all.ensures.told group (omega (arith, l, c.record_all.ensures.len))
    ∙ ap (λ (f : FleetView). told_by f.limits (side_by_side c.tops.result.now) group (get_or begun group None)) fleet
    ∙ ap (λ (nodes : List Node). told_by counted.fleet.limits nodes group (get_or begun group None)) c.tops.ensures
    ∙ ap (told_by counted.fleet.limits (nodes_at counted) group) (none group l) in
    with_items_is c.in_ok-needs.needs new (omega (arith, c.record_all.ensures.len, c.as_mut_slice.ensures.len)) ∙ needs_told counted new long told
