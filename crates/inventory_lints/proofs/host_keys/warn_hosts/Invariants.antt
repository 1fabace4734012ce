use Rattle.std.proofs.Common.{◌≡◌, ◌++◌, take}
use Rattle.inventory_lints.specs.HostKeys.{hosts_own_notes}
use Rattle.inventory_lints.proofs.host_keys.warn_hosts.Given as goal

abbrev pub invariant-loop-host : goal.invariant-loop-host
invariant-loop-host g l = l.notes ≡ l.initial.notes ++ hosts_own_notes l.group (take l.host-index l.hosts)
