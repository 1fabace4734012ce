use Rattle.std.proofs.Common.{◌≡◌, false, map, get_or}
use Rattle.std.specs.List.{range_with_len}
use Rattle.fleet_states.specs.Starts.{start_status}
use Rattle.batch_plan.proofs.beginnings.rest_all_at_start.Given as goal

abbrev pub invariant-loop-index : goal.invariant-loop-index
invariant-loop-index l =
    l.statuses.items ≡ map (λ host. start_status (get_or l.fleet.off host false) false) (range_with_len 0 l.index)
