use Rattle.std.proofs.Common.{◌≡◌, drop}
use Rattle.domains.specs.Ids.{host_numbers}
use Rattle.journal.specs.States.{moved}
use Rattle.journal.proofs.moving.move_hosts.Given as goal

abbrev pub invariant-loop-host : goal.invariant-loop-host
invariant-loop-host l =
    moved l.before l.after (host_numbers (drop l.host-index l.hosts)) l.statuses ≡ moved l.before l.after (host_numbers l.hosts) l.initial.statuses
