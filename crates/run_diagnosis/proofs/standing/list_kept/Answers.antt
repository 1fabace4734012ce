use Rattle.std.proofs.Common.{ℕ, ◌++◌, ◌∷◌, [], List, Bool, cond, false, get_or, option_map, sym, ap, ◌∙◌}
use Rattle.fleet_index.specs.NumberLists.{numbers_where}
use Rattle.fleet_index.proofs.RisingLemmas.{numbers_where_more}
use Rattle.fleet_states.specs.Statuses.{status_at}
use Rattle.group_tree.specs.declared.ids.GroupId.{GroupId}
use Rattle.run_diagnosis.specs.Standing.{is_kept}
use Rattle.run_diagnosis.proofs.standing.list_kept.Goals as goal

pub loop-index-preserved : goal.loop-index-preserved
loop-index-preserved c =
    let i : ℕ = c.loop-index.index in
    let group = option_map (λ (group : GroupId). group.index) c.args.cause.group in
    let full : ℕ → Bool = λ group. get_or c.args.full.now group false in
    let p : ℕ → Bool = λ host. is_kept c.args.fleet.now full c.args.cause.kind group host (status_at c.args.statuses.now host) in
    c.in_ok-push_where.ensures ∙ ap (λ (l : List ℕ). l ++ cond c.is_kept-is_one.result (i ∷ []) []) c.loop-index.invariant
    ∙ ap (λ b. numbers_where p i ++ cond b (i ∷ []) []) (rw c.status_of.ensures at c.is_kept-is_one.ensures) ∙ sym (numbers_where_more p i)
