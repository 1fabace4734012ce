use Rattle.std.proofs.Common.{rules, ◌<◌, ◌-◌, ℕ, List, length, take, drop, sym, ap, ◌∙◌, subst, arith}
use Rattle.std.specs.Str.{IsCharBoundary}
use Rattle.std.specs.String.{string_bytes}
use Rattle.fleet_index.specs.Runs.{start_at, end_at}
use Rattle.fleet_index.proofs.RunLemmas.{place_kept, run_lent}
use Rattle.play_model.proofs.words.Words.at.Goals as goal

pub start_of-start-requires : goal.start_of-start-requires
start_of-start-requires c =
    let inside = place_kept (string_bytes c.self.inside.text) c.self.inside.ends.items c.args.self.now c.args.place c.self.view_is c.requires in
    omega (arith, inside, ap length c.as_slice-ends.ensures.value)

pub offset_bounds-ends-place : goal.offset_bounds-ends-place
offset_bounds-ends-place c =
    let kept = place_kept (string_bytes c.self.inside.text) c.self.inside.ends.items c.args.self.now c.args.place c.self.view_is c.requires in
    let inside : c.args.place < length c.as_slice-ends.result.now = omega (arith, kept, ap length c.as_slice-ends.ensures.value) in
    search rules

pub bounds-ends-place : goal.bounds-ends-place
bounds-ends-place c =
    let inside = place_kept (string_bytes c.self.inside.text) c.self.inside.ends.items c.args.self.now c.args.place c.self.view_is c.requires in
    omega (arith, inside, ap length c.as_slice-ends.ensures.value)

pub range-requires-clause-start_le_end : goal.range-requires-clause-start_le_end
range-requires-clause-start_le_end c =
    let inside = place_kept (string_bytes c.self.inside.text) c.self.inside.ends.items c.args.self.now c.args.place c.self.view_is c.requires in
    let start = ap (λ (ends : List ℕ). start_at ends c.args.place) c.as_slice-ends.ensures.value in
    let end = ap (λ (ends : List ℕ). end_at ends c.args.place) c.as_slice-ends.ensures.value in
    omega (arith, c.start_of-start.ensures, start, end, c.self.invariant.follow.rise c.args.place inside)

pub range-requires-clause-end_boundary : goal.range-requires-clause-end_boundary
range-requires-clause-end_boundary c =
    let inside = place_kept (string_bytes c.self.inside.text) c.self.inside.ends.items c.args.self.now c.args.place c.self.view_is c.requires in
    let end = ap (λ (ends : List ℕ). end_at ends c.args.place) c.as_slice-ends.ensures.value in
    subst (λ (n : ℕ). IsCharBoundary c.as_str.result.now n) (sym end)
    (subst (λ (bytes : List ℕ). IsCharBoundary bytes (end_at c.self.inside.ends.items c.args.place)) (sym c.as_str.ensures.value) (c.self.invariant.cut c.args.place inside))

pub returns : goal.returns
returns c =
    let start = c.start_of-start.result in
    let end = end_at c.as_slice-ends.result.now c.args.place in
    c.range.ensures.value
    ∙ ap (λ (bytes : List ℕ). take (end - start) (drop start bytes)) c.as_str.ensures.value
    ∙ run_lent (string_bytes c.self.inside.text) c.self.inside.ends.items c.args.self.now c.args.place start end c.self.view_is c.requires
    (c.start_of-start.ensures ∙ ap (λ (ends : List ℕ). start_at ends c.args.place) c.as_slice-ends.ensures.value)
    (ap (λ (ends : List ℕ). end_at ends c.args.place) c.as_slice-ends.ensures.value)
