use Rattle.std.proofs.Common.{◌≡◌, ◌≤◌}
use Rattle.occupancy_table.specs.TableText.{column_width, greatest, grid_of}
use Rattle.occupancy_table.proofs.widths.widest_column.Given as goal

abbrev pub invariant-loop-place : goal.invariant-loop-place
invariant-loop-place l = (l.widest ≡ greatest (column_width (grid_of l.grid)) l.place) × (l.widest ≤ 81)
