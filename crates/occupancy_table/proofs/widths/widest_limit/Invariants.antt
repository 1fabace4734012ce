use Rattle.std.proofs.Common.{◌≡◌, length}
use Rattle.std.specs.Prelude.{decimal}
use Rattle.occupancy_table.specs.TableText.{grid_of, greatest, limit_at}
use Rattle.occupancy_table.proofs.widths.widest_limit.Given as goal

abbrev pub invariant-loop-row : goal.invariant-loop-row
invariant-loop-row l = l.widest ≡ greatest (λ row. length (decimal (limit_at (grid_of l.grid) row))) l.row
