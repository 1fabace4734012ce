use Rattle.run_command.proofs.SameRuns.{one_recap}
use Rattle.run_command.proofs.laws.one_recap.Goals as goal

pub returns : goal.returns
returns c = one_recap
