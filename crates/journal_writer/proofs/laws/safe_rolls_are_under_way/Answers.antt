use Rattle.journal_writer.proofs.TurnLemmas.{safe_rolls_are_under_way}
use Rattle.journal_writer.proofs.laws.safe_rolls_are_under_way.Goals as goal

pub returns : goal.returns
returns g c = safe_rolls_are_under_way (g.R.Runner.may c.args.runner.now)
