use Rattle.std.proofs.Common.{◌≡◌, ◌++◌, map, drop}
use Rattle.domains.specs.Walks.{rows_from}
use Rattle.domains.specs.Walked.{host_rows}
use Rattle.domains.proofs.rows.list_rows.Given as goal

abbrev pub invariant-loop-number : goal.invariant-loop-number
invariant-loop-number g l =
    host_rows l.rows.items ++ rows_from l.number (map (λ walked. walked.group.now) (drop l.number l.groups)) ≡ rows_from 0 (map (λ walked. walked.group.now) l.groups)
