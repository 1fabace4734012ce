use Rattle.std.proofs.Common.{◌≡◌, ℕ, List, length, subst, arith}
use Rattle.std.proofs.lemmas.List.{length-map}
use Rattle.bounded_io.specs.Writing.{Writes}
use Rattle.bounded_io.proofs.WritingLemmas.{writes_two}
use Rattle.forecast_svg.specs.PictureText.{each_below, play_text}
use Rattle.forecast_svg.specs.Views.{picture_view}
use Rattle.forecast_svg.proofs.EachLemmas.{each_more}
use Rattle.forecast_svg.proofs.picture.write_plays.Goals as goal

pub loop-play-preserved : goal.loop-play-preserved
loop-play-preserved g c =
    let piece : ℕ → List ℕ = play_text (picture_view c.args.picture.now) in
    let i : ℕ = c.loop-play.play in
    writes_two _ c.args.text.now c.loop-play.text c.write_play.new.text _ (piece i) _ c.loop-play.invariant c.write_play.ensures (each_more piece i)

pub returns : goal.returns
returns g c =
    let piece : ℕ → List ℕ = play_text (picture_view c.args.picture.now) in
    let courses = c.args.picture.now.courses.now in
    let all : c.loop-play.play ≡ length (picture_view c.args.picture.now).plays = omega (arith, c.loop-play-test.false, c.loop-play.auto.play-end, length-map courses (λ boundaries. boundaries.now)) in
    subst (λ (n : ℕ). Writes g.W.Write.contents c.args.text.now c.loop-play.text (each_below piece n)) all c.loop-play.invariant
