use Rattle.std.proofs.Common.{ℕ, ◌++◌, ◌∷◌, [], List, Bool, cond, sym, ap, ◌∙◌}
use Rattle.fleet_index.specs.NumberLists.{numbers_where}
use Rattle.fleet_index.proofs.RisingLemmas.{numbers_where_more}
use Rattle.fleet_states.specs.Groups.{groups_of}
use Rattle.batch_plan.specs.Holding.{waits_without_room}
use Rattle.batch_plan.proofs.HoldingLemmas.{holding_unblocks}
use Rattle.batch_plan.proofs.holding.list_held.Goals as goal

pub loop-index-preserved : goal.loop-index-preserved
loop-index-preserved c =
    let i : ℕ = c.loop-index.index in
    let p : ℕ → Bool = waits_without_room (groups_of c.args.fleet.now) c.args.statuses.now in
    c.in_ok-push_where.ensures ∙ ap (λ (l : List ℕ). l ++ cond c.waits_without_room-held.result (i ∷ []) []) c.loop-index.invariant
    ∙ ap (λ b. numbers_where p i ++ cond b (i ∷ []) []) c.waits_without_room-held.ensures ∙ sym (numbers_where_more p i)

pub returns-clause-unblocks : goal.returns-clause-unblocks
returns-clause-unblocks c = holding_unblocks c.args.fleet.now c.args.statuses.now c.requires.all
