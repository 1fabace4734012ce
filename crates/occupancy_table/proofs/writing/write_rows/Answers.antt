use Rattle.std.proofs.Common.{◌≡◌, ℕ, List, flat_map, length, subst, arith}
use Rattle.std.specs.List.{range_with_len}
use Rattle.bounded_io.specs.Writing.{Writes}
use Rattle.bounded_io.proofs.WritingLemmas.{writes_two}
use Rattle.recap.proofs.PlanLemmas.{lines_more}
use Rattle.occupancy_table.specs.TableText.{grid_of, row_line}
use Rattle.occupancy_table.proofs.writing.write_rows.Goals as goal

pub loop-row-preserved : goal.loop-row-preserved
loop-row-preserved g c =
    let piece : ℕ → List ℕ = row_line (grid_of c.args.grid.now) c.args.widths.now c.args.span in
    let i : ℕ = c.loop-row.row in
    writes_two _ c.args.text.now c.loop-row.text c.write_row.new.text _ (piece i) _ c.loop-row.invariant c.write_row.ensures (lines_more piece i)

pub returns : goal.returns
returns g c =
    let piece : ℕ → List ℕ = row_line (grid_of c.args.grid.now) c.args.widths.now c.args.span in
    let all : c.loop-row.row ≡ length (grid_of c.args.grid.now).groups = omega (arith, c.rows-row-end.ensures, c.loop-row.auto.row-end, c.loop-row-test.false) in
    subst (λ (n : ℕ). Writes g.W.Write.contents c.args.text.now c.loop-row.text (flat_map piece (range_with_len 0 n))) all c.loop-row.invariant
