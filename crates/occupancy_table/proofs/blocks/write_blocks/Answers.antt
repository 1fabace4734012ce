use Rattle.std.proofs.Common.{◌≡◌, ℕ, ◌-◌, ◌<◌, List, flat_map, length, min, ap, ◌∙◌, subst, arith}
use Rattle.std.specs.Int.{div_ceil}
use Rattle.std.specs.List.{range_with_len}
use Rattle.bounded_io.specs.Writing.{Writes}
use Rattle.bounded_io.proofs.WritingLemmas.{writes_two}
use Rattle.recap.proofs.PlanLemmas.{lines_more}
use Rattle.occupancy_table.specs.TableText.{block_text, capacity, grid_of, span_at}
use Rattle.occupancy_table.specs.declared.grid.Span.{Span}
use Rattle.occupancy_table.proofs.BlockLemmas.{goes_on, is_span}
use Rattle.occupancy_table.proofs.blocks.write_blocks.Goals as goal

pub loop-block-preserved : goal.loop-block-preserved
loop-block-preserved g c =
    let grid = grid_of c.args.grid.now in
    let widths = c.args.widths.now in
    let side = capacity widths in
    let total = length grid.counts in
    let block : ℕ = c.loop-block._block in
    let from = c.loop-block.from in
    let count = c.min-count.result in
    let some = subst (λ (n : ℕ). 0 < n) c.capacity-side_by_side.ensures.capacity c.capacity-side_by_side.ensures.some in
    let blocks = c.div_ceil-block-end.ensures ∙ ap (λ n. div_ceil n c.capacity-side_by_side.result) c.columns-total.ensures ∙ ap (div_ceil total) c.capacity-side_by_side.ensures.capacity in
    let before = subst (λ (n : ℕ). block < n) blocks c.loop-block-test.true in
    let many : count ≡ min side (total - from) = c.min-count.ensures ∙ ap (λ n. min n (c.columns-total.result - from)) c.capacity-side_by_side.ensures.capacity
    ∙ ap (λ n. min side (n - from)) c.columns-total.ensures in
    let piece : ℕ → List ℕ = λ block. block_text grid widths (span_at side total block) in
    let here = is_span side total block some before from count c.loop-block.invariant.from many in
    let wrote = subst (λ (span : Span). Writes g.W.Write.contents c.loop-block.text c.write_block.new.text (block_text grid widths span)) here c.write_block.ensures in
    record {
      from = goes_on side total block some before from count c.loop-block.invariant.from many;
      writes = writes_two _ c.args.text.now c.loop-block.text c.write_block.new.text _ (piece block) _ c.loop-block.invariant.writes wrote (lines_more piece block);
    }

pub returns : goal.returns
returns g c =
    let grid = grid_of c.args.grid.now in
    let widths = c.args.widths.now in
    let side = capacity widths in
    let total = length grid.counts in
    let piece : ℕ → List ℕ = λ block. block_text grid widths (span_at side total block) in
    let blocks = c.div_ceil-block-end.ensures ∙ ap (λ n. div_ceil n c.capacity-side_by_side.result) c.columns-total.ensures ∙ ap (div_ceil total) c.capacity-side_by_side.ensures.capacity in
    let all : c.loop-block._block ≡ div_ceil total side = omega (arith, c.loop-block-test.false, c.loop-block.auto._block-end, blocks) in
    subst (λ (n : ℕ). Writes g.W.Write.contents c.args.text.now c.loop-block.text (flat_map piece (range_with_len 0 n))) all c.loop-block.invariant.writes
