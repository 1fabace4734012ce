use Rattle.rehearse.proofs.ForecastLemmas.{forecast}
use Rattle.rehearse.proofs.rehearsal_laws.a_rehearsal_forecasts_the_play.Goals as goal

pub returns : goal.returns
returns c = forecast
