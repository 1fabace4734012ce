use Rattle.play_forecast.proofs.SameLemmas.{one_course}
use Rattle.play_forecast.proofs.laws.a_play_has_one_course.Goals as goal

pub returns : goal.returns
returns c = one_course
