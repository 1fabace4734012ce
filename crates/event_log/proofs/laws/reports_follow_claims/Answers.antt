use Rattle.event_log.proofs.OnceFronts.{reports_follow}
use Rattle.event_log.proofs.laws.reports_follow_claims.Goals as goal

-- src/laws.rt:43:1
pub returns : goal.returns
returns c = reports_follow
