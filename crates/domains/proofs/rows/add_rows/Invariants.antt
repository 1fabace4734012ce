use Rattle.std.proofs.Common.{◌≡◌, ◌++◌, map, take}
use Rattle.domains.specs.Walked.{host_rows}
use Rattle.domains.proofs.rows.add_rows.Given as goal

abbrev pub invariant-loop-host : goal.invariant-loop-host
invariant-loop-host g l =
    host_rows l.rows.items ≡ host_rows l.initial.rows.items ++ map (λ host. (host, l.group)) (take l.host-index l.hosts)
