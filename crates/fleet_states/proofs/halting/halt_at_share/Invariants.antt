use Rattle.std.proofs.Common.{◌≡◌, Some, None}
use Rattle.fleet_index.specs.Ids.{host_numbers}
use Rattle.fleet_states.specs.Batches.{fails_in, halts_at, least_where}
use Rattle.fleet_states.proofs.halting.halt_at_share.Given as goal

abbrev pub invariant-loop-step : goal.invariant-loop-step
invariant-loop-step l = least_where (halts_at (fails_in l.failing) (host_numbers l.batch) (Some l.percentage)) l.step ≡ None
