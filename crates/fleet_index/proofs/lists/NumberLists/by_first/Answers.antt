use Rattle.std.proofs.Common.{◌≡◌, ◌∙◌, ◌<◌, ℕ, List, All, length, map, sym, ap, subst, arith}
use Rattle.std.specs.List.{range_with_len}
use Rattle.std.specs.Vec.{with_items}
use Rattle.std.proofs.lemmas.List.{with_items_is}
use Rattle.std.proofs.lemmas.List.FromFn.{length-map-range_with_len}
use Rattle.fleet_index.specs.Runs.{runs, seconds_of, count_before}
use Rattle.fleet_index.proofs.lists.NumberLists.by_first.Goals as goal

pub place_seconds-requires-clause-starts : goal.place_seconds-requires-clause-starts
place_seconds-requires-clause-starts c =
    let are = c.as_mut_slice-2.ensures.value ∙ c.in_ok-ends.ensures in
    let long : length c.as_mut_slice-2.result.now ≡ c.args.count = ap length are ∙ length-map-range_with_len (count_before c.args.pairs.now) 0 c.args.count in
    are ∙ ap (λ (n : ℕ). map (count_before c.args.pairs.now) (range_with_len 0 n)) (sym long)

pub place_seconds-requires-clause-firsts : goal.place_seconds-requires-clause-firsts
place_seconds-requires-clause-firsts c =
    let are = c.as_mut_slice-2.ensures.value ∙ c.in_ok-ends.ensures in
    let long : length c.as_mut_slice-2.result.now ≡ c.args.count = ap length are ∙ length-map-range_with_len (count_before c.args.pairs.now) 0 c.args.count in
    subst (λ (n : ℕ). All (λ (pair : ℕ × ℕ). pair.0 < n) c.args.pairs.now) (sym long) c.requires

pub returns : goal.returns
returns c =
    let are = c.as_mut_slice-2.ensures.value ∙ c.in_ok-ends.ensures in
    let long : length c.as_mut_slice-2.result.now ≡ c.args.count = ap length are ∙ length-map-range_with_len (count_before c.args.pairs.now) 0 c.args.count in
    let numbers = with_items_is c.in_ok-numbers.numbers c.place_seconds.new.numbers (omega (arith, c.place_seconds.auto.numbers, c.as_mut_slice.ensures.len)) in
    let ends = with_items_is c.in_ok-ends.ends c.place_seconds.new.ends (omega (arith, c.place_seconds.auto.ends, c.as_mut_slice-2.ensures.len)) in
    ap (λ (l : List ℕ). runs l (with_items c.in_ok-ends.ends c.place_seconds.new.ends).items) numbers
    ∙ ap (λ (l : List ℕ). runs c.place_seconds.new.numbers l) ends
    ∙ c.place_seconds.ensures.runs
    ∙ ap (λ (n : ℕ). map (seconds_of c.args.pairs.now) (range_with_len 0 n)) long
