use Rattle.roll_run.proofs.FileCourses.{runs_are_courses}
use Rattle.roll_run.proofs.laws.runs_are_courses.Goals as goal

pub returns : goal.returns
returns g c = runs_are_courses (g.R.Runner.may c.args.runner.now)
