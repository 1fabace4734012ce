use Rattle.std.proofs.Common.{codes, length, refl}
use Rattle.std.specs.Prelude.{decimal}
use Rattle.bounded_io.proofs.Pieces.{writes_five}
use Rattle.forecast_svg.specs.PictureText.{height_of, most_columns, spot}
use Rattle.forecast_svg.specs.Views.{picture_view}
use Rattle.forecast_svg.proofs.picture.write_opening.Goals as goal

pub returns : goal.returns
returns g c =
    let picture = picture_view c.args.picture.now in
    let width = rw c.width.ensures at c.write_number.ensures in
    let height = rw c.whole_height.ensures at c.write_number-2.ensures in
    writes_five _ c.args.text.now c.write_str.new.self c.write_number.new.self c.write_str-2.new.self c.write_number-2.new.self c.write_str-3.new.self
    (codes "<svg xmlns=\"http://www.w3.org/2000/svg\" width=\"") (decimal (spot 320 48 (most_columns picture.plays))) (codes "\" height=\"")
    (decimal (spot 56 (height_of picture) (length picture.plays))) (codes "\">\n") _ c.write_str.ensures width c.write_str-2.ensures height c.write_str-3.ensures refl
