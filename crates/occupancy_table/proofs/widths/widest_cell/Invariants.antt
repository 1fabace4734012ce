use Rattle.std.proofs.Common.{◌≡◌, ◌≤◌}
use Rattle.occupancy_table.specs.TableText.{cell_width, greatest, grid_of}
use Rattle.occupancy_table.proofs.widths.widest_cell.Given as goal

abbrev pub invariant-loop-row : goal.invariant-loop-row
invariant-loop-row l = (l.widest ≡ greatest (cell_width (grid_of l.grid) l.place) l.row) × (l.widest ≤ 81)
