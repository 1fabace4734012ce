use Rattle.roll_run.proofs.SafeRolls.{broken_runs_are_safe, runs_are_safe}
use Rattle.roll_run.proofs.laws.runs_are_safe.Goals as goal

pub returns : goal.returns
returns g c = record {
  ended = runs_are_safe (g.R.Runner.may c.args.runner.now);
  broken = broken_runs_are_safe (g.R.Runner.may c.args.runner.now);
}
