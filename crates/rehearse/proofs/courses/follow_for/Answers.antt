use Rattle.std.proofs.Common.{length, ap, arith}
use Rattle.fleet_states.proofs.HostLemmas.{length-host_numbers}
use Rattle.rehearse.proofs.TargetLemmas.{few_targets}
use Rattle.rehearse.proofs.courses.follow_for.Goals as goal

pub count-requires : goal.count-requires
count-requires c = omega (arith, few_targets c.args.fleet.now c.args.play.now, ap length c.requires.targets, length-host_numbers c.args.hosts.now)
