use Rattle.std.proofs.Common.{◌∙◌, ℕ, ◌++◌, ◌∷◌, cond, false, List, [], get_or, sym, ap}
use Rattle.fleet_index.proofs.RisingLemmas.{numbers_where_more}
use Rattle.domains.proofs.target.list_flagged.Goals as goal

pub loop-index-preserved : goal.loop-index-preserved
loop-index-preserved c =
    let flags = c.args.flags.now in
    let i : ℕ = c.loop-index.index in
    c.in_ok-push_flagged.ensures ∙ ap (λ (l : List ℕ). l ++ cond (get_or flags i false) (i ∷ []) []) c.loop-index.invariant ∙ sym (numbers_where_more (λ flag. get_or flags flag false) i)
