use Rattle.std.proofs.Common.{◌≡◌, List, length, sym, ap, ◌∙◌, arith}
use Rattle.group_tree.specs.declared.ids.HostId.{HostId}
use Rattle.fleet_states.proofs.HostLemmas.{length-host_numbers}
use Rattle.rehearse.proofs.TargetLemmas.{few_targets}
use Rattle.rehearse.proofs.following.first_boundary.Goals as goal

pub count-requires : goal.count-requires
count-requires c =
    let lent : length c.as_slice.result.now ≡ length c.in_ok-hosts.hosts.items = ap length c.as_slice.ensures.value in
    omega (arith, lent, few_targets c.args.fleet.now c.args.play.now, ap length c.in_ok-hosts.ensures, length-host_numbers c.in_ok-hosts.hosts.items)
