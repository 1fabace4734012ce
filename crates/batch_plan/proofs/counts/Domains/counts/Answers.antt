use Rattle.std.proofs.Common.{◌≡◌, ℕ, true, List, sym, ap, ◌∙◌, subst}
use Rattle.fleet_index.specs.Chains.{is_limited}
use Rattle.batch_plan.specs.Nodes.{Subtree, side_by_side, groups_in, RiseFrom}
use Rattle.batch_plan.specs.Counts.{Counted, waiting_in, down_in, nodes_at}
use Rattle.batch_plan.proofs.FleetLemmas.{tops_rising}
use Rattle.batch_plan.proofs.FoundLemmas.{counts_found, never_missing}
use Rattle.batch_plan.proofs.counts.Domains.counts.Goals as goal

pub find-requires : goal.find-requires
find-requires g c =
    subst (λ (trees : List Subtree). RiseFrom 0 (groups_in (side_by_side trees))) (sym c.as_slice.ensures.value) (tops_rising _ c.self.inside.tops.items c.self.invariant)

pub returns-in-Some : goal.returns-in-Some
returns-in-Some g c =
    let counted : Counted = record { fleet = c.self.inside.fleet.now; places = c.self.inside.places.items } in
    let nodes : side_by_side c.as_slice.result.now ≡ nodes_at counted = ap side_by_side c.as_slice.ensures.value ∙ c.self.invariant.nodes in
    let found = counts_found counted (side_by_side c.as_slice.result.now) c.args.group.index c.in-Some.tree.now nodes c.in-Some.ensures in
    let waiting : c.waiting.result ≡ waiting_in counted c.args.group.index = c.waiting.ensures ∙ sym found.0 in
    let down : c.down.result ≡ down_in counted c.args.group.index = c.down.ensures ∙ sym found.1 in
    ap (λ (n : ℕ). (n, c.down.result)) waiting
    ∙ ap (λ (n : ℕ). (waiting_in counted c.args.group.index, n)) down
    ∙ ap (λ (k : Counted). (waiting_in k c.args.group.index, down_in k c.args.group.index)) c.self.view_is

pub returns-in-None : goal.returns-in-None
returns-in-None g c =
    let counted : Counted = record { fleet = c.self.inside.fleet.now; places = c.self.inside.places.items } in
    let nodes : side_by_side c.as_slice.result.now ≡ nodes_at counted = ap side_by_side c.as_slice.ensures.value ∙ c.self.invariant.nodes in
    let limited : is_limited counted.fleet.limits c.args.group.index ≡ true = subst (λ (k : Counted). is_limited k.fleet.limits c.args.group.index ≡ true) (sym c.self.view_is) c.requires in
    absurd (never_missing counted (side_by_side c.as_slice.result.now) c.args.group.index c.self.invariant.sound nodes limited c.in-None.ensures)
