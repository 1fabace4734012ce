use Rattle.play_forecast.proofs.CourseLaws.{one_file_course}
use Rattle.play_forecast.proofs.laws.plays_have_one_course.Goals as goal

pub returns : goal.returns
returns c = one_file_course
