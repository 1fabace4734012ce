use Rattle.std.proofs.Common.{◌≡◌, ℕ, List, length, subst, arith}
use Rattle.std.proofs.lemmas.List.{length-map}
use Rattle.bounded_io.specs.Writing.{Writes}
use Rattle.bounded_io.proofs.WritingLemmas.{writes_two}
use Rattle.forecast_svg.specs.PictureText.{each_below, group_row}
use Rattle.forecast_svg.specs.Views.{sheet_view}
use Rattle.forecast_svg.proofs.EachLemmas.{each_more}
use Rattle.forecast_svg.proofs.plays.write_group_rows.Goals as goal

pub loop-row-preserved : goal.loop-row-preserved
loop-row-preserved g c =
    let piece : ℕ → List ℕ = group_row (sheet_view c.args.sheet.now) c.args.top in
    let i : ℕ = c.loop-row.row in
    writes_two _ c.args.text.now c.loop-row.text c.write_group_row.new.text _ (piece i) _ c.loop-row.invariant c.write_group_row.ensures (each_more piece i)

pub returns : goal.returns
returns g c =
    let piece : ℕ → List ℕ = group_row (sheet_view c.args.sheet.now) c.args.top in
    let all : c.loop-row.row ≡ length (sheet_view c.args.sheet.now).groups =
    omega (arith, c.loop-row-test.false, c.loop-row.auto.row-end, length-map c.args.sheet.now.groups.now (λ group. group.index)) in
    subst (λ (n : ℕ). Writes g.W.Write.contents c.args.text.now c.loop-row.text (each_below piece n)) all c.loop-row.invariant
