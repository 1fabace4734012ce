use Rattle.std.proofs.Common.{◌≡◌, ℕ, length, ap, ◌∙◌, arith}
use Rattle.occupancy_table.specs.TableText.{greatest, grid_of, name_text}
use Rattle.occupancy_table.proofs.GreatestLemmas.{greatest_next}
use Rattle.occupancy_table.proofs.widths.widest_name.Goals as goal

pub loop-row-preserved : goal.loop-row-preserved
loop-row-preserved c =
    let taken : ℕ → ℕ = λ row. length (name_text (grid_of c.args.grid.now) row) in
    greatest_next taken c.loop-row.row c.loop-row.widest c.name_length.result c.max-widest.result c.loop-row.invariant c.name_length.ensures c.max-widest.ensures

pub returns : goal.returns
returns c =
    let all : c.loop-row.row ≡ length (grid_of c.args.grid.now).groups = omega (arith, c.rows-row-end.ensures, c.loop-row.auto.row-end, c.loop-row-test.false) in
    c.loop-row.invariant ∙ ap (greatest (λ row. length (name_text (grid_of c.args.grid.now) row))) all
