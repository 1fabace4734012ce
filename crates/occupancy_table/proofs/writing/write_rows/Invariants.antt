use Rattle.std.proofs.Common.{flat_map}
use Rattle.std.specs.List.{range_with_len}
use Rattle.bounded_io.specs.Writing.{Writes}
use Rattle.occupancy_table.specs.TableText.{grid_of, row_line}
use Rattle.occupancy_table.proofs.writing.write_rows.Given as goal

abbrev pub invariant-loop-row : goal.invariant-loop-row
invariant-loop-row g l = Writes g.W.Write.contents l.initial.text l.text (flat_map (row_line (grid_of l.grid) l.widths l.span) (range_with_len 0 l.row))
