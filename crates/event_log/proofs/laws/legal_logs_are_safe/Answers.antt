use Rattle.event_log.proofs.SafeFronts.{legal_fronts}
use Rattle.event_log.proofs.laws.legal_logs_are_safe.Goals as goal

-- src/laws.rt:9:1
pub returns : goal.returns
returns c = legal_fronts
