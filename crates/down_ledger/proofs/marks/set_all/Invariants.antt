use Rattle.std.proofs.Common.{◌≡◌, take}
use Rattle.domains.specs.Ids.{host_numbers}
use Rattle.fleet_states.specs.Statuses.{changed}
use Rattle.down_ledger.proofs.marks.set_all.Given as goal

abbrev pub invariant-loop-host : goal.invariant-loop-host
invariant-loop-host l =
    l.statuses ≡ changed (λ _. l.status) (take l.host-index (host_numbers l.hosts)) l.initial.statuses
