use Rattle.std.proofs.Common.{ℕ, ◌++◌, ◌∷◌, [], ◌&&◌, List, Bool, false, cond, get_or, sym, ap, ◌∙◌}
use Rattle.fleet_index.specs.NumberLists.{numbers_where}
use Rattle.fleet_index.proofs.RisingLemmas.{numbers_where_more}
use Rattle.fleet_states.specs.Statuses.{status_at}
use Rattle.run_diagnosis.specs.LeftOut.{is_off}
use Rattle.run_diagnosis.proofs.skipped.list_flagged.Goals as goal

pub loop-index-preserved : goal.loop-index-preserved
loop-index-preserved c =
    let i : ℕ = c.loop-index.index in
    let p : ℕ → Bool = λ host. is_off (status_at c.args.statuses.now host) && get_or c.args.flags.now host false in
    c.in_ok-push_where.ensures ∙ ap (λ (l : List ℕ). l ++ cond c.is_left_out-out.result (i ∷ []) []) c.loop-index.invariant
    ∙ ap (λ b. numbers_where p i ++ cond b (i ∷ []) []) c.is_left_out-out.ensures ∙ sym (numbers_where_more p i)
