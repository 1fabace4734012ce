use Rattle.play_forecast.proofs.SameLemmas.{end_is_last}
use Rattle.play_forecast.proofs.laws.nothing_follows_the_end.Goals as goal

pub returns : goal.returns
returns c = end_is_last
