use Rattle.roll_run.proofs.FileCourses.{no_worker}
use Rattle.roll_run.proofs.laws.no_worker_fails_at_boundaries.Goals as goal

pub returns : goal.returns
returns g c = no_worker (g.R.Runner.may c.args.runner.now)
