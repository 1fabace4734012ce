use Rattle.run_forecast_laws.proofs.CourseLemmas.{runs_open_their_courses}
use Rattle.run_forecast_laws.proofs.laws.runs_open_their_courses.Goals as goal

pub returns : goal.returns
returns g c = runs_open_their_courses (g.R.Runner.may c.args.runner.now)
