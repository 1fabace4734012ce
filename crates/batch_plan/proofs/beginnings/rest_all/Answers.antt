use Rattle.std.proofs.Common.{ℕ, false, List, ◌++◌, ◌∷◌, [], map, ap, sym, ◌∙◌, arith}
use Rattle.std.specs.List.{range_with_len}
use Rattle.std.proofs.lemmas.List.FromFn.{map-range_with_len_more}
use Rattle.fleet_states.specs.declared.status.Status.{Status}
use Rattle.fleet_states.specs.Statuses.{status_at}
use Rattle.batch_plan.specs.Beginnings.{restart_status}
use Rattle.batch_plan.proofs.beginnings.rest_all.Goals as goal

pub loop-status-preserved : goal.loop-status-preserved
loop-status-preserved c =
    let i : ℕ = c.loop-status.status-index in
    let rest : ℕ → Status = λ host. restart_status (status_at c.args.statuses.now host) false in
    let more = map-range_with_len_more rest 0 i i (omega arith) in
    c.in_ok-push.ensures.items ∙ ap (λ (l : List Status). l ++ c.rest.result ∷ []) c.loop-status.invariant ∙ ap (λ (s : Status). map rest (range_with_len 0 i) ++ s ∷ []) c.rest.ensures ∙ sym more
