use Rattle.std.proofs.Common.{length}
use Rattle.rollout.proofs.commands.faults.+write_each.Given as goal

abbrev pub decreases-write_each : goal.decreases-write_each
decreases-write_each g l = length l.faults.now
