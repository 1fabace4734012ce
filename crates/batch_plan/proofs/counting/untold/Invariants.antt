use Rattle.std.proofs.Common.{◌≡◌, None, replicate}
use Rattle.batch_plan.proofs.counting.untold.Given as goal

abbrev pub invariant-loop-group : goal.invariant-loop-group
invariant-loop-group l = l.needs.items ≡ replicate l._group None
