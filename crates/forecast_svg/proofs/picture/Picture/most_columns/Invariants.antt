use Rattle.std.proofs.Common.{◌≡◌, length}
use Rattle.forecast_svg.specs.PictureText.{greatest, play_at}
use Rattle.forecast_svg.specs.Views.{picture_view}
use Rattle.forecast_svg.proofs.picture.Picture.most_columns.Given as goal

abbrev pub invariant-loop-play : goal.invariant-loop-play
invariant-loop-play l = l.most ≡ greatest (λ play. length (play_at (picture_view l.self).plays play)) l.play
