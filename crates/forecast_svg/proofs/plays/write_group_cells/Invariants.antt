use Rattle.bounded_io.specs.Writing.{Writes}
use Rattle.forecast_svg.specs.PictureText.{each_below, group_cell}
use Rattle.forecast_svg.specs.Views.{sheet_view}
use Rattle.forecast_svg.proofs.plays.write_group_cells.Given as goal

abbrev pub invariant-loop-column : goal.invariant-loop-column
invariant-loop-column g l = Writes g.W.Write.contents l.initial.text l.text (each_below (group_cell (sheet_view l.sheet) l.group.index l.y) l.column)
