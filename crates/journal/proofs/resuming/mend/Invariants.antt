use Rattle.std.proofs.Common.{◌≡◌, take}
use Rattle.domains.specs.Ids.{host_numbers}
use Rattle.journal.specs.States.{mended}
use Rattle.journal.proofs.resuming.mend.Given as goal

abbrev pub invariant-loop-host : goal.invariant-loop-host
invariant-loop-host l = l.statuses ≡ mended (take l.host-index (host_numbers l.hosts)) l.initial.statuses
