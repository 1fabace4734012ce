use Rattle.std.proofs.Common.{◌≡◌, ℕ, ◌+◌, ◌++◌, ◌∙◌, List, flat_map, ap, subst, arith}
use Rattle.std.specs.Prelude.{codes}
use Rattle.std.specs.List.{range_with_len}
use Rattle.bounded_io.specs.Writing.{Writes}
use Rattle.bounded_io.proofs.WritingLemmas.{writes_two}
use Rattle.recap.proofs.PlanLemmas.{lines_more}
use Rattle.occupancy_table.specs.TableText.{cell_in, count_at, grid_of, limit_at}
use Rattle.occupancy_table.proofs.writing.write_cells.Goals as goal

pub loop-offset-preserved : goal.loop-offset-preserved
loop-offset-preserved g c =
    let grid = grid_of c.args.grid.now in
    let row = c.args.row in
    let cell : ℕ → ℕ → List ℕ = cell_in grid.paint c.args.widths.now.cell in
    let piece : ℕ → List ℕ = λ offset. codes " " ++ cell (count_at grid (c.args.span.from + offset) row) (limit_at grid row) in
    let i : ℕ = c.loop-offset.offset in
    let same : codes " " ++ cell c.count-down.result c.limit.result ≡ piece i = ap (λ n. codes " " ++ cell n c.limit.result) c.count-down.ensures
    ∙ ap (λ n. codes " " ++ cell (count_at grid (c.args.span.from + i) row) n) c.limit.ensures in
    let wrote = subst (λ (l : List ℕ). Writes g.W.Write.contents c.loop-offset.text c.write_cell.new.text l) same c.write_cell.ensures in
    writes_two _ c.args.text.now c.loop-offset.text c.write_cell.new.text _ (piece i) _ c.loop-offset.invariant wrote (lines_more piece i)

pub returns : goal.returns
returns g c =
    let grid = grid_of c.args.grid.now in
    let row = c.args.row in
    let piece : ℕ → List ℕ = λ offset. codes " " ++ cell_in grid.paint c.args.widths.now.cell (count_at grid (c.args.span.from + offset) row) (limit_at grid row) in
    let all : c.loop-offset.offset ≡ c.args.span.count = omega (arith, c.loop-offset-test.false, c.loop-offset.auto.offset-end) in
    subst (λ (n : ℕ). Writes g.W.Write.contents c.args.text.now c.loop-offset.text (flat_map piece (range_with_len 0 n))) all c.loop-offset.invariant
