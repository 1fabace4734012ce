use Rattle.std.proofs.Common.{◌+◌, ◌++◌, flat_map}
use Rattle.std.specs.Prelude.{codes}
use Rattle.std.specs.List.{range_with_len}
use Rattle.bounded_io.specs.Writing.{Writes}
use Rattle.occupancy_table.specs.TableText.{cell_in, count_at, grid_of, limit_at}
use Rattle.occupancy_table.proofs.writing.write_cells.Given as goal

abbrev pub invariant-loop-offset : goal.invariant-loop-offset
invariant-loop-offset g l =
    Writes g.W.Write.contents l.initial.text l.text
    (flat_map (λ offset. codes " " ++ cell_in l.grid.paint l.widths.cell (count_at (grid_of l.grid) (l.span.from + offset) l.row) (limit_at (grid_of l.grid) l.row)) (range_with_len 0 l.offset))
