use Rattle.std.proofs.Common.{not}
use Rattle.group_tree.specs.declared.ids.HostId.{HostId}
use Rattle.step_lints.specs.Hosts.{is_off}
use Rattle.step_lints.proofs.CrowdLemmas.{kept_more}
use Rattle.lint_command.proofs.targets.Targets.of.Goals as goal

pub loop-host-preserved : goal.loop-host-preserved
loop-host-preserved c =
    let fleet = c.args.fleet.now in
    let hosts = c.as_slice-named.result.now in
    let place = c.loop-host.host-index in
    let none : HostId = record { index = 0 } in
    record {
      waiting = kept_more (λ host. not (is_off fleet host)) hosts place none _ _ c.loop-host-test.true c.loop-host.invariant.waiting c.in_ok-add.ensures.waiting;
      down = kept_more (is_off fleet) hosts place none _ _ c.loop-host-test.true c.loop-host.invariant.down c.in_ok-add.ensures.down;
    }
