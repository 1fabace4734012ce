use Rattle.std.proofs.Common.{◌≡◌, ◌∙◌, ℕ, length, sym, subst, IsPermutation}
use Rattle.std.specs.List.{range_with_len}
use Rattle.std.proofs.lemmas.List.FromFn.{length-range_with_len}
use Rattle.std.proofs.lemmas.List.Sorted.{length_permutation}
use Rattle.domains.specs.Ids.{group_lists, host_numbers}
use Rattle.domains.proofs.fleet.deal.Goals as goal

pub list_deal_places-requires : goal.list_deal_places-requires
list_deal_places-requires c =
    let once = c.in_ok-order.ensures.each_once in
    let order = host_numbers c.in_ok-order.order.items in
    let chains = group_lists c.as_slice.result.now in
    let long : length order ≡ length chains = length_permutation _ _ once ∙ length-range_with_len 0 (length chains) in
    rw c.as_slice-2.ensures.value (subst (λ (n : ℕ). IsPermutation (range_with_len 0 n) order) (sym long) once)

pub invariant_of-result : goal.invariant_of-result
invariant_of-result c =
    let once = rw c.as_slice.ensures.value at c.in_ok-order.ensures.each_once in
    let dealt = rw c.as_slice.ensures.value at c.in_ok-order.ensures.dealt in
    record {
      sound = c.requires.sound (host_numbers c.in_ok-order.order.items) once dealt;
      places = rw c.as_slice-2.ensures.value at c.in_ok-places.ensures;
    }

pub returns-clause-sound : goal.returns-clause-sound
returns-clause-sound c =
    c.requires.sound (host_numbers c.in_ok-order.order.items) (rw c.as_slice.ensures.value at c.in_ok-order.ensures.each_once)
    (rw c.as_slice.ensures.value at c.in_ok-order.ensures.dealt)
