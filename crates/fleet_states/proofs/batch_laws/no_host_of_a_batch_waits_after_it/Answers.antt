use Rattle.fleet_states.proofs.BatchLaws.{none_waits_after}
use Rattle.fleet_states.proofs.batch_laws.no_host_of_a_batch_waits_after_it.Goals as goal

pub returns : goal.returns
returns c = none_waits_after
