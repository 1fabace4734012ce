use Rattle.std.proofs.Common.{codes, refl}
use Rattle.bounded_io.proofs.Pieces.{writes_three}
use Rattle.forecast_svg.specs.PictureText.{count_text, label_end, label_start}
use Rattle.forecast_svg.proofs.cells.write_count_label.Goals as goal

pub returns : goal.returns
returns g c =
    writes_three _ c.args.text.now c.open_label.new.text c.write_count.new.text c.close_label.new.text (label_start (codes "count") c.args.at.x c.args.at.y)
    (count_text c.args.down c.args.limit) label_end _ c.open_label.ensures c.write_count.ensures c.close_label.ensures refl
