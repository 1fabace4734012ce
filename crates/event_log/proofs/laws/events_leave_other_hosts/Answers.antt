use Rattle.event_log.proofs.ChangeLaws.{events_leave}
use Rattle.event_log.proofs.laws.events_leave_other_hosts.Goals as goal

-- src/laws.rt:48:1
pub returns : goal.returns
returns c = events_leave
