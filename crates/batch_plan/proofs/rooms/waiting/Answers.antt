use Rattle.std.proofs.Common.{sym, ap, ◌∙◌}
use Rattle.fleet_states.specs.Statuses.{waiting_count}
use Rattle.batch_plan.proofs.RoomLemmas.{members_is}
use Rattle.batch_plan.proofs.rooms.waiting.Goals as goal

pub returns : goal.returns
returns c =
    let same = c.members.ensures.members ∙ sym (members_is c.args.fleet.now c.args.group.index c.requires) in
    c.count_waiting.ensures ∙ ap (waiting_count c.args.statuses.now) same
