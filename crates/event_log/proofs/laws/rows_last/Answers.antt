use Rattle.event_log.proofs.ChangeLaws as law
use Rattle.event_log.proofs.laws.rows_last.Goals as goal

-- src/laws.rt:53:1
pub returns : goal.returns
returns c = law.rows_last
