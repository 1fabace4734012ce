use Rattle.std.proofs.Common.{◌+◌, ◌++◌, flat_map}
use Rattle.std.specs.Prelude.{codes}
use Rattle.std.specs.List.{range_with_len}
use Rattle.bounded_io.specs.Writing.{Writes}
use Rattle.occupancy_table.specs.TableText.{column_head, rightwards}
use Rattle.occupancy_table.proofs.writing.write_heads.Given as goal

abbrev pub invariant-loop-offset : goal.invariant-loop-offset
invariant-loop-offset g l =
    Writes g.W.Write.contents l.initial.text l.text (flat_map (λ offset. codes " " ++ rightwards l.width (column_head (l.span.from + offset))) (range_with_len 0 l.offset))
