use Rattle.play_forecast.proofs.SameLemmas.{one_way}
use Rattle.play_forecast.proofs.laws.a_play_goes_one_way.Goals as goal

pub returns : goal.returns
returns c = one_way
