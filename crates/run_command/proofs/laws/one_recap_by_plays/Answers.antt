use Rattle.run_command.proofs.SameRuns.{one_recap_by_plays}
use Rattle.run_command.proofs.laws.one_recap_by_plays.Goals as goal

pub returns : goal.returns
returns g c = one_recap_by_plays (g.R.Runner.may c.args.one.now) (g.S.Runner.may c.args.other.now)
