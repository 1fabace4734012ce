use Rattle.event_log.proofs.GrowthLaws.{no_rows_without_batch}
use Rattle.event_log.proofs.growth.hosts_of_no_batch_have_no_rows.Goals as goal

pub returns : goal.returns
returns c = no_rows_without_batch
