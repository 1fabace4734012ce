use Rattle.std.proofs.Common.{◌≡◌, ℕ, length, refl, subst, sym}
use Rattle.std.proofs.lemmas.List.{length-map}
use Rattle.bounded_io.specs.Writing.{Writes}
use Rattle.bounded_io.proofs.WritingLemmas.{writes_two}
use Rattle.forecast_svg.specs.PictureText.{each_below, group_row, host_row, spot}
use Rattle.forecast_svg.specs.Views.{sheet_view}
use Rattle.forecast_svg.proofs.plays.write_rows.Goals as goal

pub returns : goal.returns
returns g c =
    let sheet = sheet_view c.args.sheet.now in
    let many : length sheet.groups ≡ length c.args.sheet.now.groups.now = length-map c.args.sheet.now.groups.now (λ group. group.index) in
    let below = rw c.spot.ensures at c.write_host_rows.ensures in
    let hosts = subst
    (λ (n : ℕ). Writes g.W.Write.contents c.write_group_rows.new.text c.write_host_rows.new.text (each_below (host_row sheet (spot c.args.top 16 n)) (length sheet.hosts)))
    (sym many) below in
    writes_two _ c.args.text.now c.write_group_rows.new.text c.write_host_rows.new.text (each_below (group_row sheet c.args.top) (length sheet.groups))
    (each_below (host_row sheet (spot c.args.top 16 (length sheet.groups))) (length sheet.hosts)) _ c.write_group_rows.ensures hosts refl
