use Rattle.std.proofs.Common.{rules, ◌∙◌, ◌<◌, ◌-◌, ℕ, List, length, take, drop, ap, arith}
use Rattle.fleet_index.specs.Runs.{start_at, end_at}
use Rattle.fleet_index.proofs.RunLemmas.{place_kept, run_lent}
use Rattle.fleet_index.proofs.lists.NumberLists.at.Goals as goal

pub start_of-requires : goal.start_of-requires
start_of-requires c =
    let inside = place_kept c.self.inside.numbers.items c.self.inside.ends.items c.args.self.now c.args.place c.self.view_is c.requires in
    omega (arith, inside, ap length c.as_slice-ends.ensures.value)

pub bounds-ends-place : goal.bounds-ends-place
bounds-ends-place c =
    let inside = place_kept c.self.inside.numbers.items c.self.inside.ends.items c.args.self.now c.args.place c.self.view_is c.requires in
    omega (arith, inside, ap length c.as_slice-ends.ensures.value)

pub offset_bounds-ends-place : goal.offset_bounds-ends-place
offset_bounds-ends-place c =
    let kept = place_kept c.self.inside.numbers.items c.self.inside.ends.items c.args.self.now c.args.place c.self.view_is c.requires in
    let inside : c.args.place < length c.as_slice-ends.result.now = omega (arith, kept, ap length c.as_slice-ends.ensures.value) in
    search rules

pub part-requires : goal.part-requires
part-requires c =
    let inside = place_kept c.self.inside.numbers.items c.self.inside.ends.items c.args.self.now c.args.place c.self.view_is c.requires in
    let start = ap (λ (ends : List ℕ). start_at ends c.args.place) c.as_slice-ends.ensures.value in
    let end = ap (λ (ends : List ℕ). end_at ends c.args.place) c.as_slice-ends.ensures.value in (
      omega (arith, c.start_of.ensures, start, end, c.self.invariant.rise c.args.place inside),
      omega (arith, end, c.self.invariant.within c.args.place inside, ap length c.as_slice.ensures.value),
    )

pub returns : goal.returns
returns c =
    let start = c.start_of.result in
    let end = end_at c.as_slice-ends.result.now c.args.place in
    c.part.ensures
    ∙ ap (λ (numbers : List ℕ). take (end - start) (drop start numbers)) c.as_slice.ensures.value
    ∙ run_lent c.self.inside.numbers.items c.self.inside.ends.items c.args.self.now c.args.place start end c.self.view_is c.requires
    (c.start_of.ensures ∙ ap (λ (ends : List ℕ). start_at ends c.args.place) c.as_slice-ends.ensures.value)
    (ap (λ (ends : List ℕ). end_at ends c.args.place) c.as_slice-ends.ensures.value)
