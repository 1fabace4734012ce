use Rattle.std.proofs.Common.{length}
use Rattle.roll_run.proofs.plays.+run_later.Given as goal

abbrev pub decreases-run_later : goal.decreases-run_later
decreases-run_later g l = length l.setup.now.plays.now
