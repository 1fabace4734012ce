use Rattle.std.proofs.Common.{ℕ, ◌++◌, ◌∷◌, [], List, Bool, cond, sym, ap, ◌∙◌}
use Rattle.fleet_index.specs.Chains.{is_limited}
use Rattle.fleet_index.specs.NumberLists.{numbers_where}
use Rattle.fleet_index.proofs.RisingLemmas.{numbers_where_more}
use Rattle.forecast_svg.proofs.groups.list_limited.Goals as goal

pub loop-index-preserved : goal.loop-index-preserved
loop-index-preserved c =
    let i : ℕ = c.loop-index.index in
    let p : ℕ → Bool = is_limited c.args.fleet.now.limits in
    c.in_ok-push_where.ensures ∙ ap (λ (l : List ℕ). l ++ cond c.is_among_limited.result (i ∷ []) []) c.loop-index.invariant
    ∙ ap (λ b. numbers_where p i ++ cond b (i ∷ []) []) c.is_among_limited.ensures ∙ sym (numbers_where_more p i)
