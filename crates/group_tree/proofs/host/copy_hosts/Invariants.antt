use Rattle.std.proofs.Common.{◌≡◌, take}
use Rattle.group_tree.proofs.host.copy_hosts.Given as goal

abbrev pub invariant-loop-host : goal.invariant-loop-host
invariant-loop-host g l = l.copy.items ≡ take l.host-index l.hosts
