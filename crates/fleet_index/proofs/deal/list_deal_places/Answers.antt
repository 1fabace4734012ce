use Rattle.std.proofs.Common.{◌≡◌, ◌<◌, ℕ, length, get_or, set, arith, ap, sym, ◌∙◌}
use Rattle.std.proofs.lemmas.List.{get_or-map, length-map, length-set}
use Rattle.group_tree.specs.declared.ids.HostId.{HostId}
use Rattle.fleet_index.specs.Ids.{host_numbers}
use Rattle.fleet_index.proofs.DealLemmas.{in_range, places_more}
use Rattle.fleet_index.proofs.deal.list_deal_places.Goals as goal

pub index_mut-requires : goal.index_mut-requires
index_mut-requires c =
    let order = host_numbers c.args.order.now in
    let here : get_or order c.loop-place.place 0 ≡ _ = get_or-map (λ (host : HostId). host.index) c.args.order.now c.loop-place.place (record { index = 0 }) 0 c.loop-place-test.true in
    let inside : get_or order c.loop-place.place 0 < length order = in_range (length order) order c.requires c.loop-place.place (simp length-map c.loop-place-test.true) in
    omega (arith, inside, here, length-map c.args.order.now (λ (host : HostId). host.index), c.loop-place.places.ok.0, c.loop-place.invariant.len)

pub loop-place-preserved : goal.loop-place-preserved
loop-place-preserved c =
    let order = host_numbers c.args.order.now in
    let long : length order ≡ length c.args.order.now = length-map c.args.order.now (λ (host : HostId). host.index) in
    let here = get_or-map (λ (host : HostId). host.index) c.args.order.now c.loop-place.place (record { index = 0 }) 0 c.loop-place-test.true in
    record {
      len = length-set c.loop-place.places.items _ _ ∙ c.loop-place.invariant.len;
      at =
          places_more order c.loop-place.places.items _ c.loop-place.place c.requires (simp length-map c.loop-place-test.true) (c.loop-place.invariant.len ∙ sym long)
          (ap (λ (host : ℕ). set c.loop-place.places.items host c.loop-place.place) (sym here)) c.loop-place.invariant.at;
    }
