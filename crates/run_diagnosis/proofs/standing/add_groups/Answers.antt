use Rattle.std.proofs.Common.{◌≡◌, ℕ, Bool, false, List, ◌++◌, Some, length, flat_map, get_or, ap, ◌∙◌, arith}
use Rattle.std.proofs.lemmas.List.{append_assoc}
use Rattle.std.specs.List.{range_with_len}
use Rattle.recap.proofs.PlanLemmas.{lines_more}
use Rattle.run_diagnosis.specs.Standing.{group_line}
use Rattle.run_diagnosis.proofs.standing.add_groups.Goals as goal

pub loop-index-preserved : goal.loop-index-preserved
loop-index-preserved c =
    let full : ℕ → Bool = λ group. get_or c.args.full.now group false in
    let piece : ℕ → List ℕ = λ group. group_line c.args.fleet.now full c.args.statuses.now c.args.kind (Some group) in
    let i : ℕ = c.loop-index.index in
    let front = c.args.lines.now.items in
    c.in_ok-add_group.ensures ∙ ap (λ (l : List ℕ). l ++ piece i) c.loop-index.invariant
    ∙ append_assoc front (flat_map piece (range_with_len 0 i)) (piece i) ∙ ap (λ (l : List ℕ). front ++ l) (lines_more piece i)

pub returns : goal.returns
returns c =
    let full : ℕ → Bool = λ group. get_or c.args.full.now group false in
    let piece : ℕ → List ℕ = λ group. group_line c.args.fleet.now full c.args.statuses.now c.args.kind (Some group) in
    let all : c.loop-index.index ≡ length c.args.fleet.now.groups = omega (arith, c.groups-index-end.ensures.count, c.loop-index.auto.index-end, c.loop-index-test.false) in
    c.loop-index.invariant ∙ ap (λ n. c.args.lines.now.items ++ flat_map piece (range_with_len 0 n)) all
