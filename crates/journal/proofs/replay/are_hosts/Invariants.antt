use Rattle.std.proofs.Common.{◌≡◌, drop}
use Rattle.domains.specs.Ids.{host_numbers}
use Rattle.journal.specs.States as spec
use Rattle.journal.proofs.replay.are_hosts.Given as goal

abbrev pub invariant-loop-host : goal.invariant-loop-host
invariant-loop-host l = spec.are_hosts l.fleet (host_numbers (drop l.host-index l.hosts)) ≡ spec.are_hosts l.fleet (host_numbers l.hosts)
