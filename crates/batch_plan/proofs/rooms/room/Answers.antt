use Rattle.std.proofs.Common.{◌≡◌, ℕ, ◌-◌, Option, Some, option_map, sym, ap, ◌∙◌}
use Rattle.fleet_index.specs.NumberLists.{list_at}
use Rattle.fleet_states.specs.Statuses.{down_count}
use Rattle.batch_plan.proofs.RoomLemmas.{room_is}
use Rattle.batch_plan.proofs.rooms.room.Goals as goal

pub returns-in-Some-clause-room : goal.returns-in-Some-clause-room
returns-in-Some-clause-room c =
    let statuses = c.args.statuses.now in
    let members = list_at c.args.fleet.now.members c.args.group.index in
    let left : Option ℕ → Option ℕ = option_map (λ limit. limit - down_count statuses members) in
    let down = c.count_down-down.ensures ∙ ap (down_count statuses) c.members.ensures.members in
    let result : c.saturating_sub.result ≡ c.in-Some.limit - down_count statuses members = c.saturating_sub.ensures ∙ ap (λ n. n - c.count_down-down.result) c.from.ensures
    ∙ ap (λ n. c.in-Some.limit - n) down in
    ap (λ n. Some n) result ∙ ap left (sym c.in-Some.is ∙ c.limit.ensures) ∙ sym (room_is c.args.fleet.now c.args.group.index c.requires statuses)

pub returns-in-None-clause-room : goal.returns-in-None-clause-room
returns-in-None-clause-room c =
    let statuses = c.args.statuses.now in
    let members = list_at c.args.fleet.now.members c.args.group.index in
    let left : Option ℕ → Option ℕ = option_map (λ limit. limit - down_count statuses members) in
    ap left (sym c.in-None.is ∙ c.limit.ensures) ∙ sym (room_is c.args.fleet.now c.args.group.index c.requires statuses)
