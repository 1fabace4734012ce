use Rattle.std.proofs.Common.{◌≡◌}
use Rattle.pool_tests.proofs.gathered.put.Given as goal

abbrev pub invariant-loop : goal.invariant-loop
invariant-loop g l = (l.front.line ≡ l.initial.front.line) × (l.front.takers ≡ l.initial.front.takers)
