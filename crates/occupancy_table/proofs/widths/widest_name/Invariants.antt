use Rattle.std.proofs.Common.{◌≡◌, length}
use Rattle.occupancy_table.specs.TableText.{grid_of, greatest, name_text}
use Rattle.occupancy_table.proofs.widths.widest_name.Given as goal

abbrev pub invariant-loop-row : goal.invariant-loop-row
invariant-loop-row l = l.widest ≡ greatest (λ row. length (name_text (grid_of l.grid) row)) l.row
