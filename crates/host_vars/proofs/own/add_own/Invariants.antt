use Rattle.std.proofs.Common.{◌≡◌, ◌++◌, take}
use Rattle.host_vars.specs.Entries.{entry_variables}
use Rattle.host_vars.specs.Own.{own_in}
use Rattle.host_vars.proofs.own.add_own.Given as goal

abbrev pub invariant-loop-host : goal.invariant-loop-host
invariant-loop-host g l =
    entry_variables l.entries.items ≡ entry_variables l.initial.entries.items ++ own_in l.name (take l.host-index l.hosts)
