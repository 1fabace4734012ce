use Rattle.std.proofs.Common.{length}
use Rattle.batch_plan.proofs.changes.+recount.Given as goal

abbrev pub decreases-recount : goal.decreases-recount
decreases-recount g l = length l.chain.now
