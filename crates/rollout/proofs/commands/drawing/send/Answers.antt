use Rattle.std.proofs.Common.{ℕ, Option, List, rules, subst}
use Rattle.bounded_io.specs.Sending.{SendsText}
use Rattle.forecast_svg.specs.PictureText.{picture_text}
use Rattle.forecast_svg.specs.Views.{picture_view}
use Rattle.rollout.proofs.commands.drawing.send.Goals as goal

pub returns : goal.returns
returns g c =
    let text : List ℕ = picture_text (picture_view c.args.picture.now) in
    let told = c.finish.ensures.finishes _ c.new-text.result text c.new-text.ensures c.write_picture.ensures in
    let same = c.write_picture.ensures.same_reference in
    let Is : Option (List ℕ) → Type 0 = λ (new : Option (List ℕ)). SendsText (g.W.Write.contents c.args.out.now) new text c.finish.result in
    subst Is (search (rules, same)) told
