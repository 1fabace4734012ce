use Rattle.bounded_io.specs.Writing.{Writes}
use Rattle.forecast_svg.specs.PictureText.{each_below, head_label}
use Rattle.forecast_svg.proofs.plays.write_heads.Given as goal

abbrev pub invariant-loop-column : goal.invariant-loop-column
invariant-loop-column g l = Writes g.W.Write.contents l.initial.text l.text (each_below (head_label l.y) l.column)
