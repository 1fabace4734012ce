use Rattle.std.proofs.Common.{length}
use Rattle.batch_plan.specs.Nodes.{side_by_side}
use Rattle.batch_plan.proofs.finds.+find.Given as goal

abbrev pub decreases-find : goal.decreases-find
decreases-find g l = length (side_by_side l.trees.now)
