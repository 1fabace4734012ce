use Rattle.std.proofs.Common.{codes, [], refl}
use Rattle.bounded_io.proofs.WritingLemmas.{writes_two}
use Rattle.forecast_svg.specs.PictureText.{cell_text, count_text, label_text, room_word, spot}
use Rattle.forecast_svg.proofs.cells.write_counted.Goals as goal

pub returns : goal.returns
returns g c =
    let placed = rw c.spot-left.ensures at c.write_cell.ensures in
    let cell = rw c.room_word.ensures at placed in
    let across = rw c.spot-center.ensures at c.write_count_label.ensures in
    let label = rw c.spot-middle.ensures at across in
    writes_two _ c.args.text.now c.write_cell.new.text c.write_count_label.new.text (cell_text (room_word c.args.down c.args.limit) [] (spot 308 48 c.args.column) c.args.y)
    (label_text (codes "count") (spot 331 48 c.args.column) (spot c.args.y 11 1) (count_text c.args.down c.args.limit)) _ cell label refl
