use Rattle.std.proofs.Common.{length, sym, ◌∙◌, arith}
use Rattle.domains.specs.Ids.{host_numbers}
use Rattle.fleet_states.proofs.HostLemmas.{length-host_numbers}
use Rattle.plan_check.proofs.JudgeLemmas.{are_marked, hosts_few, hosts_known, marked_hosts}
use Rattle.plan_check.proofs.batches.wrong_batch.Goals as goal

pub wrong_groups-requires-clause-within : goal.wrong_groups-requires-clause-within
wrong_groups-requires-clause-within c =
    let stood = c.args.stood.now in
    let fine = sym (c.wrong_hosts.ensures.wrong (marked_hosts stood) (are_marked stood)) ∙ c.in_default-wrong_hosts.is in
    hosts_known c.args.terms.now.statuses.now c.args.batch (marked_hosts stood) (host_numbers c.args.hosts.now) fine (length c.args.terms.now.fleet.now.hosts) c.requires.terms.all

pub wrong_groups-requires-clause-few : goal.wrong_groups-requires-clause-few
wrong_groups-requires-clause-few c =
    let stood = c.args.stood.now in
    let fine = sym (c.wrong_hosts.ensures.wrong (marked_hosts stood) (are_marked stood)) ∙ c.in_default-wrong_hosts.is in
    let few = hosts_few c.args.terms.now.statuses.now c.args.batch (marked_hosts stood) (host_numbers c.args.hosts.now) fine in
    omega (arith, few, length-host_numbers c.args.hosts.now, c.requires.terms.all, c.requires.sound.few_hosts)
