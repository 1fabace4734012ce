use Rattle.std.proofs.Common.{◌≡◌, ◌++◌, drop, filter}
use Rattle.domains.specs.Ids.{host_numbers}
use Rattle.fleet_states.specs.Statuses.{status_at}
use Rattle.journal.specs.States.{is_tried}
use Rattle.journal.proofs.resuming.add_tried.Given as goal

abbrev pub invariant-loop-host : goal.invariant-loop-host
invariant-loop-host l =
    host_numbers l.owing.items ++ filter (λ host. is_tried (status_at l.statuses host)) (host_numbers (drop l.host-index l.hosts))
    ≡ host_numbers l.initial.owing.items ++ filter (λ host. is_tried (status_at l.statuses host)) (host_numbers l.hosts)
