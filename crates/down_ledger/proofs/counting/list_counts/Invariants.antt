use Rattle.std.proofs.Common.{◌≡◌, map}
use Rattle.std.specs.List.{range_with_len}
use Rattle.down_ledger.specs.Inside.{limited_count}
use Rattle.down_ledger.proofs.counting.list_counts.Given as goal

abbrev pub invariant-loop-index : goal.invariant-loop-index
invariant-loop-index l =
    l.counts.items ≡ map (limited_count (record { fleet = l.fleet; down = l.marks })) (range_with_len 0 l.index)
