use Rattle.play_forecast.proofs.SameLemmas.{went_on}
use Rattle.play_forecast.proofs.laws.a_play_went_on_before_its_last_boundary.Goals as goal

pub returns : goal.returns
returns c = went_on
