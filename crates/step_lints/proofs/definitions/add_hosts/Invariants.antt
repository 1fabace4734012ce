use Rattle.std.proofs.Common.{◌≡◌, ◌||◌, take}
use Rattle.group_tree.specs.Names.{Name}
use Rattle.step_lints.specs.Given.{has_missed, hosts_give}
use Rattle.step_lints.proofs.definitions.add_hosts.Given as goal

abbrev pub invariant-loop-host : goal.invariant-loop-host
invariant-loop-host g l = (name : Name) → has_missed l.given name ≡ (has_missed l.initial.given name || hosts_give name (take l.host-index l.hosts))
