use Rattle.std.proofs.Common.{◌∙◌, ℕ, ◌++◌, ◌∷◌, cond, List, [], sym, ap}
use Rattle.domains.specs.Ids.{host_numbers}
use Rattle.fleet_index.proofs.RisingLemmas.{numbers_where_more}
use Rattle.fleet_states.specs.declared.status.Status.{Status}
use Rattle.fleet_states.specs.Statuses.{is_waiting, status_at}
use Rattle.journal.proofs.writing.list_waiting.Goals as goal

pub loop-index-preserved : goal.loop-index-preserved
loop-index-preserved c =
    let statuses = c.args.statuses.now in
    let i : ℕ = c.loop-index.index in
    c.in_ok-push_waiting.ensures
    ∙ ap (λ (s : Status). host_numbers c.loop-index.hosts.items ++ cond (is_waiting s) (i ∷ []) []) c.status_of.ensures
    ∙ ap (λ (l : List ℕ). l ++ cond (is_waiting (status_at statuses i)) (i ∷ []) []) c.loop-index.invariant
    ∙ sym (numbers_where_more (λ host. is_waiting (status_at statuses host)) i)
