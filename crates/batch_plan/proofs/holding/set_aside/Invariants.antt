use Rattle.std.proofs.Common.{◌≡◌, take}
use Rattle.domains.specs.Ids.{host_numbers}
use Rattle.batch_plan.specs.Holding.{set_aside}
use Rattle.batch_plan.proofs.holding.set_aside.Given as goal

abbrev pub invariant-loop-host : goal.invariant-loop-host
invariant-loop-host l = l.statuses ≡ set_aside (take l.host-index (host_numbers l.hosts)) l.initial.statuses
