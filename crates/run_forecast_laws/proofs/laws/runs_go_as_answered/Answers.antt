use Rattle.run_forecast_laws.proofs.Kept.{broken_runs_go_as_answered, runs_go_as_answered}
use Rattle.run_forecast_laws.proofs.laws.runs_go_as_answered.Goals as goal

pub returns : goal.returns
returns g c = record {
  runs = runs_go_as_answered (g.R.Runner.may c.args.runner.now);
  broken = broken_runs_go_as_answered (g.R.Runner.may c.args.runner.now);
}
