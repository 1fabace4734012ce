use Rattle.std.proofs.Common.{◌≡◌, false, map}
use Rattle.std.specs.List.{range_with_len}
use Rattle.fleet_states.specs.Statuses.{status_at}
use Rattle.batch_plan.specs.Beginnings.{restart_status}
use Rattle.batch_plan.proofs.beginnings.rest_all.Given as goal

abbrev pub invariant-loop-status : goal.invariant-loop-status
invariant-loop-status l =
    l.next.items ≡ map (λ host. restart_status (status_at l.statuses host) false) (range_with_len 0 l.status-index)
