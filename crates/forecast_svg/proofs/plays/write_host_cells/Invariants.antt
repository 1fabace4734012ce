use Rattle.bounded_io.specs.Writing.{Writes}
use Rattle.forecast_svg.specs.PictureText.{each_below, host_cell}
use Rattle.forecast_svg.proofs.plays.write_host_cells.Given as goal

abbrev pub invariant-loop-column : goal.invariant-loop-column
invariant-loop-column g l = Writes g.W.Write.contents l.initial.text l.text (each_below (host_cell l.sheet.boundaries.now l.host.index l.y) l.column)
