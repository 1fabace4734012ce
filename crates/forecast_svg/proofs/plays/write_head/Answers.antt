use Rattle.std.proofs.Common.{codes, refl}
use Rattle.bounded_io.proofs.Pieces.{writes_three}
use Rattle.forecast_svg.specs.PictureText.{column_head, label_end, label_start, spot}
use Rattle.forecast_svg.proofs.plays.write_head.Goals as goal

pub returns : goal.returns
returns g c =
    let opened = rw c.spot-x.ensures at c.open_label.ensures in
    writes_three _ c.args.text.now c.open_label.new.text c.write_column_head.new.text c.close_label.new.text (label_start (codes "head") (spot 331 48 c.args.column) c.args.y)
    (column_head c.args.column) label_end _ opened c.write_column_head.ensures c.close_label.ensures refl
