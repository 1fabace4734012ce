use Rattle.std.proofs.Common.{Some, None, nat_lt, sym, ap, ◌∙◌, refl}
use Rattle.fleet_index.specs.NumberLists.{list_at}
use Rattle.fleet_states.specs.Statuses.{down_count}
use Rattle.resume_state.proofs.OverLemmas.{over_is}
use Rattle.resume_state.proofs.over.is_over.Goals as goal

pub returns-in-Some : goal.returns-in-Some
returns-in-Some c =
    let statuses = c.args.statuses.now in
    ap (λ n. nat_lt n c.count_down.result) c.from.ensures
    ∙ over_is c.args.fleet.now statuses c.args.group.index c.requires (Some c.in-Some.limit) (sym c.in-Some.is ∙ c.limit.ensures) c.count_down.result
    (c.count_down.ensures ∙ ap (down_count statuses) c.members.ensures.members)

pub returns-in-None : goal.returns-in-None
returns-in-None c =
    let statuses = c.args.statuses.now in
    over_is c.args.fleet.now statuses c.args.group.index c.requires None (sym c.in-None.is ∙ c.limit.ensures) (down_count statuses (list_at c.args.fleet.now.members c.args.group.index)) refl
