use Rattle.run_command.proofs.SafeRecaps.{broken_recaps_are_of_safe_rolls, recaps_are_of_safe_rolls}
use Rattle.run_command.proofs.laws.recaps_are_of_safe_rolls.Goals as goal

pub returns : goal.returns
returns g c = record {
  ended = recaps_are_of_safe_rolls (g.R.Runner.may c.args.runner.now);
  broken = broken_recaps_are_of_safe_rolls (g.R.Runner.may c.args.runner.now);
}
