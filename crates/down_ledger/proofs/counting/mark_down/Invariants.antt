use Rattle.std.proofs.Common.{◌≡◌, map, take}
use Rattle.fleet_states.specs.Statuses.{is_down}
use Rattle.down_ledger.proofs.counting.mark_down.Given as goal

abbrev pub invariant-loop-status : goal.invariant-loop-status
invariant-loop-status l = l.marks.items ≡ map is_down (take l.status-index l.statuses)
