use Rattle.std.proofs.Common.{◌≡◌}
use Rattle.pool_tests.proofs.gathered.settle.Given as goal

abbrev pub invariant-loop : goal.invariant-loop
invariant-loop g l = l.front.takers ≡ 0
