use Rattle.std.proofs.Common.{◌≡◌, ℕ, ◌+◌, ◌++◌, List, flat_map, subst, arith}
use Rattle.std.specs.Prelude.{codes}
use Rattle.std.specs.List.{range_with_len}
use Rattle.bounded_io.specs.Writing.{Writes}
use Rattle.bounded_io.proofs.WritingLemmas.{writes_two}
use Rattle.recap.proofs.PlanLemmas.{lines_more}
use Rattle.occupancy_table.specs.TableText.{column_head, rightwards}
use Rattle.occupancy_table.proofs.writing.write_heads.Goals as goal

pub loop-offset-preserved : goal.loop-offset-preserved
loop-offset-preserved g c =
    let piece : ℕ → List ℕ = λ offset. codes " " ++ rightwards c.args.width (column_head (c.args.span.from + offset)) in
    let i : ℕ = c.loop-offset.offset in
    writes_two _ c.args.text.now c.loop-offset.text c.write_head.new.text _ (piece i) _ c.loop-offset.invariant c.write_head.ensures (lines_more piece i)

pub returns : goal.returns
returns g c =
    let piece : ℕ → List ℕ = λ offset. codes " " ++ rightwards c.args.width (column_head (c.args.span.from + offset)) in
    let all : c.loop-offset.offset ≡ c.args.span.count = omega (arith, c.loop-offset-test.false, c.loop-offset.auto.offset-end) in
    subst (λ (n : ℕ). Writes g.W.Write.contents c.args.text.now c.loop-offset.text (flat_map piece (range_with_len 0 n))) all c.loop-offset.invariant
