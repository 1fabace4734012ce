use Rattle.std.proofs.Common.{◌≡◌, take}
use Rattle.domains.specs.Ids.{host_numbers}
use Rattle.fleet_states.specs.Statuses.{changed}
use Rattle.batch_plan.specs.Inside.{awaited}
use Rattle.batch_plan.proofs.beginnings.await_turns.Given as goal

abbrev pub invariant-loop-host : goal.invariant-loop-host
invariant-loop-host l = l.statuses.items ≡ changed awaited (take l.host-index (host_numbers l.target)) l.initial.statuses.items
