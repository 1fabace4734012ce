use Rattle.occupancy_table.specs.TableText.{cell_width, grid_of}
use Rattle.occupancy_table.proofs.GreatestLemmas.{greatest_next, max_within}
use Rattle.occupancy_table.proofs.widths.widest_cell.Goals as goal

pub loop-row-preserved : goal.loop-row-preserved
loop-row-preserved c = (
  greatest_next (cell_width (grid_of c.args.grid.now) c.args.place) c.loop-row.row c.loop-row.widest c.cell_width.result c.max-widest.result c.loop-row.invariant.0 c.cell_width.ensures.width
      c.max-widest.ensures,
  max_within c.loop-row.widest c.cell_width.result c.max-widest.result 81 c.max-widest.ensures c.loop-row.invariant.1 c.cell_width.ensures.small,
)
