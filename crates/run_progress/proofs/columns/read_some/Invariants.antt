use Rattle.std.proofs.Common.{◌≤◌, length}
use Rattle.run_progress.proofs.columns.read_some.Given as goal

abbrev pub invariant-loop : goal.invariant-loop
invariant-loop g l = l.len ≤ length l.bytes
