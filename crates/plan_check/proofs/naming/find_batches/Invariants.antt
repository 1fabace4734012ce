use Rattle.std.proofs.Common.{◌+◌, ◌≤◌, length}
use Rattle.plan_check.proofs.NamingLemmas.{IsReadTo, bytes_left}
use Rattle.plan_check.proofs.naming.find_batches.Given as goal

abbrev pub invariant-loop-left : goal.invariant-loop-left
invariant-loop-left l = record {
  read : IsReadTo l.fleet l.text l.batches l.left;
  within : length l.batches + bytes_left l.left ≤ length l.text + 1;
}

abbrev pub decreases-loop-left : goal.decreases-loop-left
decreases-loop-left l = bytes_left l.left
