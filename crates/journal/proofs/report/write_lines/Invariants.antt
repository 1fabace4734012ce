use Rattle.std.specs.Prelude.{flat_map}
use Rattle.std.specs.List.{range_with_len}
use Rattle.bounded_io.specs.Writing.{Writes}
use Rattle.fleet_states.specs.Statuses.{status_at}
use Rattle.journal.specs.Standing.{state_line}
use Rattle.journal.proofs.report.write_lines.Given as goal

abbrev pub invariant-loop-index : goal.invariant-loop-index
invariant-loop-index g l =
    Writes g.W.Write.contents l.initial.text l.text (flat_map (λ host. state_line l.fleet host (status_at l.statuses host)) (range_with_len 0 l.index))
