use Rattle.std.proofs.Common.{codes, length, refl}
use Rattle.bounded_io.proofs.Pieces.{writes_four}
use Rattle.forecast_svg.specs.PictureText.{each_below, host_cell, host_in, host_label, label_end, label_start, spot}
use Rattle.forecast_svg.specs.Views.{sheet_view}
use Rattle.forecast_svg.proofs.plays.write_host_row.Goals as goal

pub returns : goal.returns
returns g c =
    let sheet = sheet_view c.args.sheet.now in
    let across = rw c.name_spot.ensures.x at c.open_label.ensures in
    let opened = rw c.name_spot.ensures.y at across in
    let named = rw c.host.ensures at c.write_host_label.ensures in
    let of_row = rw c.host-2.ensures at c.write_host_cells.ensures in
    let cells = rw c.spot.ensures at of_row in
    writes_four _ c.args.text.now c.open_label.new.text c.write_host_label.new.text c.close_label.new.text c.write_host_cells.new.text
    (label_start (codes "host") 300 (spot (spot c.args.top 11 1) 16 c.args.row)) (host_label sheet.fleet (host_in sheet c.args.row)) label_end
    (each_below (host_cell sheet.boundaries (host_in sheet c.args.row) (spot c.args.top 16 c.args.row)) (length sheet.boundaries)) _ opened named c.close_label.ensures cells refl
