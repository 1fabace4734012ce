use Rattle.std.proofs.Common.{◌≡◌, ◌*◌, flat_map, length, min}
use Rattle.std.specs.List.{range_with_len}
use Rattle.bounded_io.specs.Writing.{Writes}
use Rattle.occupancy_table.specs.TableText.{block_text, capacity, grid_of, span_at}
use Rattle.occupancy_table.proofs.blocks.write_blocks.Given as goal

abbrev pub invariant-loop-block : goal.invariant-loop-block
invariant-loop-block g l =
    record {
      from : l.from ≡ min (l._block * capacity l.widths) (length (grid_of l.grid).counts);
      writes : Writes g.W.Write.contents l.initial.text l.text
          (flat_map (λ block. block_text (grid_of l.grid) l.widths (span_at (capacity l.widths) (length (grid_of l.grid).counts) block)) (range_with_len 0 l._block));
    }
