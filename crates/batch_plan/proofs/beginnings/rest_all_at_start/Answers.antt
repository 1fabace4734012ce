use Rattle.std.proofs.Common.{ℕ, false, List, ◌++◌, ◌∷◌, [], get_or, map, ap, sym, ◌∙◌, arith}
use Rattle.std.specs.List.{range_with_len}
use Rattle.std.proofs.lemmas.List.FromFn.{map-range_with_len_more}
use Rattle.fleet_states.specs.declared.status.Status.{Status}
use Rattle.fleet_states.specs.Starts.{start_status}
use Rattle.batch_plan.proofs.beginnings.rest_all_at_start.Goals as goal

pub loop-index-preserved : goal.loop-index-preserved
loop-index-preserved c =
    let i : ℕ = c.loop-index.index in
    let rest : ℕ → Status = λ host. start_status (get_or c.args.fleet.now.off host false) false in
    let more = map-range_with_len_more rest 0 i i (omega arith) in
    let here = c.rest_at_start.ensures ∙ ap (λ b. start_status b false) c.is_off.ensures in
    c.in_ok-push.ensures.items ∙ ap (λ (l : List Status). l ++ c.rest_at_start.result ∷ []) c.loop-index.invariant ∙ ap (λ (s : Status). map rest (range_with_len 0 i) ++ s ∷ []) here ∙ sym more
