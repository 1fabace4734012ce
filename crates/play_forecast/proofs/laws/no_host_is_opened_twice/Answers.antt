use Rattle.play_forecast.proofs.OpenedLemmas.{opened_once}
use Rattle.play_forecast.proofs.laws.no_host_is_opened_twice.Goals as goal

pub returns : goal.returns
returns c = opened_once
