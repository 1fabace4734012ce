use Rattle.std.proofs.Common.{flat_map}
use Rattle.std.specs.List.{range_with_len}
use Rattle.bounded_io.specs.Writing.{Writes}
use Rattle.domains.specs.Numbered.{host_at}
use Rattle.fleet_states.specs.Statuses.{status_at}
use Rattle.run_diagnosis.specs.Downs.{down_line}
use Rattle.run_diagnosis.specs.Rows.{seen_at}
use Rattle.run_diagnosis.proofs.down.write_down_lines.Given as goal

abbrev pub invariant-loop-index : goal.invariant-loop-index
invariant-loop-index g l =
    Writes g.W.Write.contents l.initial.text l.text
    (flat_map (λ host. down_line l.several (host_at l.fleet.hosts host) (seen_at l.rows host) (status_at l.statuses host)) (range_with_len 0 l.index))
