use Rattle.run_forecast_laws.proofs.RunLemmas.{broken_runs_go_as_rehearsed, runs_go_as_rehearsed}
use Rattle.run_forecast_laws.proofs.laws.runs_go_as_rehearsed.Goals as goal

pub returns : goal.returns
returns g c = record {
  runs = runs_go_as_rehearsed (g.R.Runner.may c.args.runner.now);
  broken = broken_runs_go_as_rehearsed (g.R.Runner.may c.args.runner.now);
}
