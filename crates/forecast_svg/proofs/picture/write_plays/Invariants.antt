use Rattle.bounded_io.specs.Writing.{Writes}
use Rattle.forecast_svg.specs.PictureText.{each_below, play_text}
use Rattle.forecast_svg.specs.Views.{picture_view}
use Rattle.forecast_svg.proofs.picture.write_plays.Given as goal

abbrev pub invariant-loop-play : goal.invariant-loop-play
invariant-loop-play g l = Writes g.W.Write.contents l.initial.text l.text (each_below (play_text (picture_view l.picture)) l.play)
