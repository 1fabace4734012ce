use Rattle.run_command.proofs.SafeRecaps.{faults_from_are_of_safe_rolls, runs_from_are_of_safe_rolls}
use Rattle.run_command.proofs.laws.runs_from_are_of_safe_rolls.Goals as goal

pub returns : goal.returns
returns g c = record {
  ended = runs_from_are_of_safe_rolls (g.R.Runner.may c.args.runner.now);
  broken = faults_from_are_of_safe_rolls (g.R.Runner.may c.args.runner.now);
}
