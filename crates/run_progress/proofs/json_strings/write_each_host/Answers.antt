use Rattle.std.proofs.Common.{arith, refl}
use Rattle.bounded_io.proofs.Pieces.{writes_each}
use Rattle.group_tree.specs.declared.ids.HostId.{HostId}
use Rattle.run_progress.specs.JsonStrings.{next_host}
use Rattle.run_progress.proofs.json_strings.write_each_host.Goals as goal

pub loop-host-preserved : goal.loop-host-preserved
loop-host-preserved g c =
    writes_each _ (λ (host : HostId). next_host c.args.fleet.now host.index) c.args.hosts.now c.loop-host.host-index _ _ _ _ _ c.loop-host.invariant c.write_next_host.ensures refl (omega arith)
