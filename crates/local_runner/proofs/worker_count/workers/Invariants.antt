use Rattle.std.proofs.Common.{◌<◌, ◌≤◌}
use Rattle.local_runner.proofs.worker_count.workers.Given as goal

abbrev pub invariant-loop-workers : goal.invariant-loop-workers
invariant-loop-workers g l = record { some : 0 < l.workers; few : l.workers ≤ l.forks }

abbrev pub decreases-loop-workers : goal.decreases-loop-workers
decreases-loop-workers g l = l.workers
