use Rattle.std.proofs.Common.{◌≡◌, ◌<◌, ℕ, None, length}
use Rattle.std.specs.Prelude.{slice_index_or}
use Rattle.fleet_states.specs.Groups.{group_at, groups_of, room}
use Rattle.plan_check.proofs.groups.list_rooms.Given as goal

abbrev pub invariant-loop-index : goal.invariant-loop-index
invariant-loop-index l = record {
  many : length l.rooms.items ≡ l.index;
  each : (group : ℕ) → group < l.index → slice_index_or l.rooms.items group None ≡ room l.statuses (group_at (groups_of l.fleet) group);
}
