use Rattle.std.proofs.Common.{ℕ, ◌++◌, ◌∷◌, [], List, Bool, cond, sym, ap, ◌∙◌}
use Rattle.fleet_index.specs.NumberLists.{numbers_where}
use Rattle.fleet_index.proofs.RisingLemmas.{numbers_where_more}
use Rattle.fleet_states.specs.Statuses.{status_at}
use Rattle.run_diagnosis.specs.Standing.{is_between}
use Rattle.run_diagnosis.proofs.standing.list_between.Goals as goal

pub loop-index-preserved : goal.loop-index-preserved
loop-index-preserved c =
    let i : ℕ = c.loop-index.index in
    let p : ℕ → Bool = λ host. is_between c.args.least c.args.most (status_at c.args.statuses.now host) in
    c.in_ok-push_where.ensures ∙ ap (λ (l : List ℕ). l ++ cond c.is_between-is_one.result (i ∷ []) []) c.loop-index.invariant
    ∙ ap (λ b. numbers_where p i ++ cond b (i ∷ []) []) (rw c.status_of.ensures at c.is_between-is_one.ensures) ∙ sym (numbers_where_more p i)
