use Rattle.std.proofs.Common.{◌≡◌, ℕ, List, length, subst, arith}
use Rattle.bounded_io.specs.Writing.{Writes}
use Rattle.bounded_io.proofs.WritingLemmas.{writes_two}
use Rattle.forecast_svg.specs.PictureText.{each_below, host_cell}
use Rattle.forecast_svg.proofs.EachLemmas.{each_more}
use Rattle.forecast_svg.proofs.plays.write_host_cells.Goals as goal

pub loop-column-preserved : goal.loop-column-preserved
loop-column-preserved g c =
    let piece : ℕ → List ℕ = host_cell c.args.sheet.now.boundaries.now c.args.host.index c.args.y in
    let i : ℕ = c.loop-column.column in
    writes_two _ c.args.text.now c.loop-column.text c.write_host_cell.new.text _ (piece i) _ c.loop-column.invariant c.write_host_cell.ensures (each_more piece i)

pub returns : goal.returns
returns g c =
    let piece : ℕ → List ℕ = host_cell c.args.sheet.now.boundaries.now c.args.host.index c.args.y in
    let all : c.loop-column.column ≡ length c.args.sheet.now.boundaries.now = omega (arith, c.loop-column-test.false, c.loop-column.auto.column-end) in
    subst (λ (n : ℕ). Writes g.W.Write.contents c.args.text.now c.loop-column.text (each_below piece n)) all c.loop-column.invariant
