use Rattle.fleet_states.proofs.GroupLemmas.{groups_of_hosts}
use Rattle.fleet_states.proofs.StartLemmas.{starts_at_rest, starts_safe}
use Rattle.fleet_states.proofs.laws.every_fleet_starts_safe.Goals as goal

pub returns-clause-groups : goal.returns-clause-groups
returns-clause-groups c = groups_of_hosts c.args.fleet.now c.hosts-hosts.ensures.sound

pub returns-clause-safe : goal.returns-clause-safe
returns-clause-safe c = starts_safe c.args.fleet.now c.hosts-hosts.ensures.sound

pub returns-clause-rest : goal.returns-clause-rest
returns-clause-rest c = starts_at_rest c.args.fleet.now
