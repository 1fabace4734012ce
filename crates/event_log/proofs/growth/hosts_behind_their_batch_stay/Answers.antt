use Rattle.event_log.proofs.GrowthLaws.{stay_behind}
use Rattle.event_log.proofs.growth.hosts_behind_their_batch_stay.Goals as goal

pub returns : goal.returns
returns c = stay_behind
