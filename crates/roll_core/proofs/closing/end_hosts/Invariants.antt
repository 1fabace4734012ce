use Rattle.std.proofs.Common.{take, false}
use Rattle.domains.specs.Ids.{host_numbers}
use Rattle.event_log.specs.States.{at_rest}
use Rattle.down_ledger.specs.Rosters.{HasChanged}
use Rattle.roll_core.proofs.closing.end_hosts.Given as goal

abbrev pub invariant-loop-host : goal.invariant-loop-host
invariant-loop-host l =
    HasChanged l.initial.roster l.roster (take l.host-index (host_numbers l.hosts)) (at_rest l.halt) false
