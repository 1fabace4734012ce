use Rattle.std.proofs.Common.{◌≡◌}
use Rattle.pool_tests.proofs.gathered.take_all.Given as goal

abbrev pub invariant-loop : goal.invariant-loop
invariant-loop g l = l.end.line ≡ l.initial.end.line
