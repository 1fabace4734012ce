use Rattle.play_forecast.proofs.PlannedLemmas.{as_many_as_planned}
use Rattle.play_forecast.proofs.laws.a_play_without_failure_takes_as_many_batches_as_its_first_plan.Goals as goal

pub returns : goal.returns
returns c = as_many_as_planned
