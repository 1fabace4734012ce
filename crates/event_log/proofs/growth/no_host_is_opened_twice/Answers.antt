use Rattle.event_log.proofs.GrowthLaws.{no_host_twice}
use Rattle.event_log.proofs.growth.no_host_is_opened_twice.Goals as goal

pub returns : goal.returns
returns c = no_host_twice
