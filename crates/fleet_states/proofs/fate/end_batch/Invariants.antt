use Rattle.std.proofs.Common.{◌≡◌, take}
use Rattle.fleet_index.specs.Ids.{host_numbers}
use Rattle.fleet_states.specs.Batches.{fails_in, statuses_after}
use Rattle.fleet_states.proofs.fate.end_batch.Given as goal

abbrev pub invariant-loop-host : goal.invariant-loop-host
invariant-loop-host l = l.statuses ≡ statuses_after l.halt (fails_in l.failing) (take l.host-index (host_numbers l.batch)) l.initial.statuses
