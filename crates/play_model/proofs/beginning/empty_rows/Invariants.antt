use Rattle.std.proofs.Common.{◌≡◌, replicate, None}
use Rattle.play_model.proofs.beginning.empty_rows.Given as goal

abbrev pub invariant-loop-number : goal.invariant-loop-number
invariant-loop-number l = l.rows.items ≡ replicate l._number None
