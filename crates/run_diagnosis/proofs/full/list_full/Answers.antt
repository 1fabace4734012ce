use Rattle.std.proofs.Common.{ℕ, Bool, false, List, ◌++◌, ◌∷◌, [], get_or, length, map, ap, sym, ◌≡◌, ◌∙◌, arith}
use Rattle.std.specs.List.{range_with_len}
use Rattle.std.proofs.lemmas.List.FromFn.{map-range_with_len_more}
use Rattle.run_diagnosis.specs.Fulls.{is_full}
use Rattle.run_diagnosis.proofs.FullLemmas.{full_at}
use Rattle.run_diagnosis.proofs.full.list_full.Goals as goal

pub loop-index-preserved : goal.loop-index-preserved
loop-index-preserved c =
    let i : ℕ = c.loop-index.index in
    let full : ℕ → Bool = is_full c.args.fleet.now c.args.statuses.now in
    c.in_ok-push.ensures.items ∙ ap (λ (l : List Bool). l ++ c.is_full.result ∷ []) c.loop-index.invariant
    ∙ ap (λ (b : Bool). map full (range_with_len 0 i) ++ b ∷ []) c.is_full.ensures ∙ sym (map-range_with_len_more full 0 i i (omega arith))

pub returns : goal.returns
returns c = λ group.
    let fleet = c.args.fleet.now in
    let statuses = c.args.statuses.now in
    let all : c.loop-index.index ≡ length fleet.groups = omega (arith, c.groups-index-end.ensures.count, c.loop-index.auto.index-end, c.loop-index-test.false) in
    ap (λ (l : List Bool). get_or l group false) (c.loop-index.invariant ∙ ap (λ n. map (is_full fleet statuses) (range_with_len 0 n)) all) ∙ full_at fleet statuses group
