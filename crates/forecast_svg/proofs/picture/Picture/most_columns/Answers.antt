use Rattle.std.proofs.Common.{◌≡◌, ℕ, length, ap, ◌∙◌, arith}
use Rattle.std.proofs.lemmas.List.{length-map}
use Rattle.forecast_svg.specs.PictureText.{greatest, play_at}
use Rattle.forecast_svg.specs.Views.{picture_view}
use Rattle.forecast_svg.proofs.GreatestLemmas.{greatest_next}
use Rattle.forecast_svg.proofs.picture.Picture.most_columns.Goals as goal

pub loop-play-preserved : goal.loop-play-preserved
loop-play-preserved c =
    let long : ℕ → ℕ = λ play. length (play_at (picture_view c.args.self.now).plays play) in
    greatest_next long c.loop-play.play c.loop-play.most _ c.max-most.result c.loop-play.invariant (ap length c.boundaries.ensures) c.max-most.ensures

pub returns : goal.returns
returns c =
    let long : ℕ → ℕ = λ play. length (play_at (picture_view c.args.self.now).plays play) in
    let courses = c.args.self.now.courses.now in
    let all : c.loop-play.play ≡ length (picture_view c.args.self.now).plays = omega (arith, c.loop-play.auto.play-end, c.loop-play-test.false, length-map courses (λ boundaries. boundaries.now)) in
    c.loop-play.invariant ∙ ap (greatest long) all
