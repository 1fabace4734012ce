use Rattle.std.proofs.Common.{◌≡◌}
use Rattle.batch_plan.specs.Nodes.{side_by_side}
use Rattle.batch_plan.specs.Counts.{bare_before}
use Rattle.batch_plan.proofs.shape.grow.Given as goal

abbrev pub invariant-loop-index : goal.invariant-loop-index
invariant-loop-index g l = side_by_side l.tops.items ≡ bare_before l.fleet l.index
