use Rattle.occupancy_table.specs.TableText.{column_width, grid_of}
use Rattle.occupancy_table.proofs.GreatestLemmas.{greatest_next, max_within}
use Rattle.occupancy_table.proofs.widths.widest_column.Goals as goal

pub loop-place-preserved : goal.loop-place-preserved
loop-place-preserved c = (
  greatest_next (column_width (grid_of c.args.grid.now)) c.loop-place.place c.loop-place.widest c.column_width.result c.max-widest.result c.loop-place.invariant.0 c.column_width.ensures.width
      c.max-widest.ensures,
  max_within c.loop-place.widest c.column_width.result c.max-widest.result 81 c.max-widest.ensures c.loop-place.invariant.1 c.column_width.ensures.small,
)
