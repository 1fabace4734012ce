use Rattle.std.proofs.Common.{◌≡◌, ℕ, length, ap, ◌∙◌, arith}
use Rattle.std.specs.Prelude.{decimal}
use Rattle.occupancy_table.specs.TableText.{greatest, grid_of, limit_at}
use Rattle.occupancy_table.proofs.GreatestLemmas.{greatest_next}
use Rattle.occupancy_table.proofs.widths.widest_limit.Goals as goal

pub loop-row-preserved : goal.loop-row-preserved
loop-row-preserved c =
    let digits = c.digits.ensures.digits ∙ ap (λ n. length (decimal n)) c.limit.ensures in
    let taken : ℕ → ℕ = λ row. length (decimal (limit_at (grid_of c.args.grid.now) row)) in
    greatest_next taken c.loop-row.row c.loop-row.widest c.digits.result c.max-widest.result c.loop-row.invariant digits c.max-widest.ensures

pub returns : goal.returns
returns c =
    let all : c.loop-row.row ≡ length (grid_of c.args.grid.now).groups = omega (arith, c.rows-row-end.ensures, c.loop-row.auto.row-end, c.loop-row-test.false) in
    c.loop-row.invariant ∙ ap (greatest (λ row. length (decimal (limit_at (grid_of c.args.grid.now) row)))) all
