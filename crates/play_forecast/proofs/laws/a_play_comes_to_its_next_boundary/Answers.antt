use Rattle.play_forecast.proofs.SameLemmas.{one_boundary_more}
use Rattle.play_forecast.proofs.laws.a_play_comes_to_its_next_boundary.Goals as goal

pub returns : goal.returns
returns c = one_boundary_more
