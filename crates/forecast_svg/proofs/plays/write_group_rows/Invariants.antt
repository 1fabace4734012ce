use Rattle.bounded_io.specs.Writing.{Writes}
use Rattle.forecast_svg.specs.PictureText.{each_below, group_row}
use Rattle.forecast_svg.specs.Views.{sheet_view}
use Rattle.forecast_svg.proofs.plays.write_group_rows.Given as goal

abbrev pub invariant-loop-row : goal.invariant-loop-row
invariant-loop-row g l = Writes g.W.Write.contents l.initial.text l.text (each_below (group_row (sheet_view l.sheet) l.top) l.row)
