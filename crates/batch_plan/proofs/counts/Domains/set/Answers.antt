use Rattle.std.proofs.Common.{◌≡◌, ◌<◌, List, map, length, sym, ap, ◌∙◌, subst, arith}
use Rattle.std.specs.List.{list_all}
use Rattle.std.proofs.lemmas.List.{with_items_is}
use Rattle.domains.specs.Ids.{group_numbers}
use Rattle.batch_plan.specs.Nodes.{Subtree, side_by_side, groups_in, RiseFrom}
use Rattle.batch_plan.specs.Changes.{counts_on, recounted_along}
use Rattle.batch_plan.specs.Counts.{Counted, place_at, HasMoved}
use Rattle.batch_plan.proofs.FleetLemmas.{tops_rising, tops_counted, tops_kept, stood_there, has_moved}
use Rattle.batch_plan.proofs.counts.Domains.set.Goals as goal

pub recount-requires-clause-rise : goal.recount-requires-clause-rise
recount-requires-clause-rise g c =
    subst (λ (trees : List Subtree). RiseFrom 0 (groups_in (side_by_side trees))) (sym c.as_mut_slice.ensures.value) (tops_rising _ c.self.inside.tops.items c.self.invariant)

pub recount-requires-clause-counted : goal.recount-requires-clause-counted
recount-requires-clause-counted g c =
    let counted : Counted = record { fleet = c.self.inside.fleet.now; places = c.self.inside.places.items } in
    let inside : c.args.host.index < length counted.fleet.hosts = subst (λ (k : Counted). c.args.host.index < length k.fleet.hosts) (sym c.self.view_is) c.requires in
    let placed : c.args.host.index < length counted.places = omega (arith, inside, c.self.invariant.all_placed) in
    let stood : c.index-was.result.now ≡ place_at counted.places c.args.host.index =
    stood_there counted.places c.args.host.index c.index-was.result.now placed c.index-was.ensures in
    ap (λ (trees : List Subtree). list_all (counts_on (group_numbers c.chain-chain.result.now) c.index-was.result.now) (side_by_side trees)) c.as_mut_slice.ensures.value
    ∙ tops_counted counted c.self.inside.tops.items c.self.invariant c.args.host.index inside
    (group_numbers c.chain-chain.result.now) c.chain-chain.ensures.chain c.index-was.result.now stood

pub invariant_of-self : goal.invariant_of-self
invariant_of-self g c =
    let counted : Counted = record { fleet = c.self.inside.fleet.now; places = c.self.inside.places.items } in
    let inside : c.args.host.index < length counted.fleet.hosts = subst (λ (k : Counted). c.args.host.index < length k.fleet.hosts) (sym c.self.view_is) c.requires in
    let placed : c.args.host.index < length counted.places = omega (arith, inside, c.self.invariant.all_placed) in
    let stood : c.index-was.result.now ≡ place_at counted.places c.args.host.index =
    stood_there counted.places c.args.host.index c.index-was.result.now placed c.index-was.ensures in
    let tops = with_items_is c.self.inside.tops c.recount.new.trees (omega (arith, c.recount.auto.trees, c.as_mut_slice.ensures.len)) in
    let changed =
    ap side_by_side tops
    ∙ c.recount.ensures
    ∙ ap
    (λ (trees : List Subtree). map (recounted_along (group_numbers c.chain-chain.result.now) c.index-was.result.now c.args.place) (side_by_side trees)) c.as_mut_slice.ensures.value in
    tops_kept counted c.self.inside.tops.items c.self.invariant c.args.host.index inside
    (group_numbers c.chain-chain.result.now) c.chain-chain.ensures.chain c.index-was.result.now stood c.args.place _ changed

pub returns-clause-counts : goal.returns-clause-counts
returns-clause-counts g c =
    let counted : Counted = record { fleet = c.self.inside.fleet.now; places = c.self.inside.places.items } in
    let inside : c.args.host.index < length counted.fleet.hosts = subst (λ (k : Counted). c.args.host.index < length k.fleet.hosts) (sym c.self.view_is) c.requires in
    λ group.
    subst (λ (k : Counted). HasMoved k c.args.host.index c.args.place group) c.self.view_is
    (has_moved counted c.self.invariant.sound c.args.host.index inside c.self.invariant.all_placed c.args.place group)
