use Rattle.std.proofs.Common.{arith, refl}
use Rattle.bounded_io.proofs.Pieces.{writes_each}
use Rattle.group_tree.specs.declared.ids.HostId.{HostId}
use Rattle.recap.specs.PlanText.{spaced_name}
use Rattle.run_diagnosis.proofs.notes.write_each_name.Goals as goal

pub loop-host-preserved : goal.loop-host-preserved
loop-host-preserved g c =
    writes_each _ (λ (host : HostId). spaced_name c.args.fleet.now host.index) c.args.hosts.now c.loop-host.host-index _ _ _ _ _ c.loop-host.invariant c.write_name.ensures refl (omega arith)
