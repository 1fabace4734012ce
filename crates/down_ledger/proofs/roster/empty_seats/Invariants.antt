use Rattle.std.proofs.Common.{◌≡◌, None, replicate}
use Rattle.down_ledger.proofs.roster.empty_seats.Given as goal

abbrev pub invariant-loop-place : goal.invariant-loop-place
invariant-loop-place l = l.seats.items ≡ replicate l._place None
