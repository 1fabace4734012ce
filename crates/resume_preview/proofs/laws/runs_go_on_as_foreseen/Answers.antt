use Rattle.resume_preview.proofs.LawLemmas.{runs_go_on_as_foreseen}
use Rattle.resume_preview.proofs.laws.runs_go_on_as_foreseen.Goals as goal

pub returns : goal.returns
returns g c = runs_go_on_as_foreseen (g.R.Runner.may c.args.runner.now)
