use Rattle.std.proofs.Common.{◌≡◌}
use Rattle.batch_plan.specs.Needs.{Needs}
use Rattle.batch_plan.specs.Inside.{IsBestBefore}
use Rattle.batch_plan.proofs.naming.best_of_groups.Given as goal

abbrev pub invariant-loop-index : goal.invariant-loop-index
invariant-loop-index l =
    (state : Needs) → state.groups ≡ l.needs → IsBestBefore state l.index l.best.count l.best.bound
