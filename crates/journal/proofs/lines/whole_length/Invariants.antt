use Rattle.std.proofs.Common.{length}
use Rattle.journal.specs.Inside.{IsBehindLines}
use Rattle.journal.proofs.lines.whole_length.Given as goal

abbrev pub invariant-loop-behind : goal.invariant-loop-behind
invariant-loop-behind l = IsBehindLines l.text l.left

abbrev pub decreases-loop-behind : goal.decreases-loop-behind
decreases-loop-behind l = length l.left
