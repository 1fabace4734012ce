use Rattle.std.proofs.Common.{◌≡◌}
use Rattle.pool_tests.proofs.gathered.put_all.Given as goal

abbrev pub invariant-loop-number : goal.invariant-loop-number
invariant-loop-number g l = (l.front.line ≡ l.fn.front.line) × (l.front.takers ≡ l.fn.front.takers)

abbrev pub invariant-loop : goal.invariant-loop
invariant-loop g l = (l.front.line ≡ l.fn.front.line) × (l.front.takers ≡ l.fn.front.takers)
