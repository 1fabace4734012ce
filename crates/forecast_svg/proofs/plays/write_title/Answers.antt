use Rattle.std.proofs.Common.{codes, refl}
use Rattle.std.specs.Prelude.{decimal}
use Rattle.bounded_io.proofs.Pieces.{writes_four}
use Rattle.forecast_svg.specs.PictureText.{label_end, label_start, spot}
use Rattle.forecast_svg.proofs.plays.write_title.Goals as goal

pub returns : goal.returns
returns g c =
    let opened = rw c.spot-y.ensures at c.open_label.ensures in
    let numbered = rw c.spot-number.ensures at c.write_number.ensures in
    writes_four _ c.args.text.now c.open_label.new.text c.write_str.new.self c.write_number.new.self c.close_label.new.text (label_start (codes "play") 8 (spot c.args.top 16 1))
    (codes "play ") (decimal (spot c.args.play 1 1)) label_end _ opened c.write_str.ensures numbered c.close_label.ensures refl
