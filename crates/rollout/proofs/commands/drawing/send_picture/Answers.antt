use Rattle.std.proofs.Common.{subst}
use Rattle.bounded_io.specs.Sending.{SendsText}
use Rattle.forecast_svg.specs.PictureText.{PictureView, picture_text}
use Rattle.rollout.proofs.commands.drawing.send_picture.Goals as goal

pub returns : goal.returns
returns g c =
    subst (λ (p : PictureView). SendsText (g.W.Write.contents c.args.out.now) (g.W.Write.contents c.send.new.out) (picture_text p) c.send.result) c.new-picture.ensures c.send.ensures
