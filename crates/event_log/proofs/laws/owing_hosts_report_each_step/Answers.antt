use Rattle.event_log.proofs.OwingFronts.{report_each}
use Rattle.event_log.proofs.laws.owing_hosts_report_each_step.Goals as goal

pub returns : goal.returns
returns c = report_each
