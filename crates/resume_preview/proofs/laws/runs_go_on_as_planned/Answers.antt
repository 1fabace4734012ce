use Rattle.resume_preview.proofs.LawLemmas.{runs_go_on_as_planned}
use Rattle.resume_preview.proofs.laws.runs_go_on_as_planned.Goals as goal

pub returns : goal.returns
returns g c = runs_go_on_as_planned (g.R.Runner.may c.args.runner.now)
