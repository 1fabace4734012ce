use Rattle.std.proofs.Common.{subst, arith}
use Rattle.batch_plan.specs.Inside.{IsBestBefore}
use Rattle.batch_plan.proofs.naming.best_of_groups.Goals as goal

pub returns : goal.returns
returns c state same =
    subst (λ n. IsBestBefore state n c.loop-index.best.count c.loop-index.best.bound) (omega arith) (c.loop-index.invariant state same)
