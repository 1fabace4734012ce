use Rattle.play_forecast.proofs.CourseLaws.{others_decide_nothing}
use Rattle.play_forecast.proofs.laws.failures_of_other_hosts_decide_nothing.Goals as goal

pub returns : goal.returns
returns c = others_decide_nothing
