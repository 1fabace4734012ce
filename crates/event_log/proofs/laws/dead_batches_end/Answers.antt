use Rattle.event_log.proofs.ProgressLaws.{dead_end}
use Rattle.event_log.proofs.laws.dead_batches_end.Goals as goal

-- src/laws.rt:73:1
pub returns : goal.returns
returns c = dead_end
