use Rattle.std.proofs.Common.{arith, refl}
use Rattle.bounded_io.proofs.Pieces.{writes_each}
use Rattle.group_tree.specs.declared.ids.HostId.{HostId}
use Rattle.rehearse.specs.Stacks.{top}
use Rattle.rehearse.specs.Hosts.{member_line}
use Rattle.rehearse.proofs.hosts.write_each_member.Goals as goal

pub loop-host-preserved : goal.loop-host-preserved
loop-host-preserved g c =
    writes_each _ (λ (host : HostId). member_line c.args.rehearsal.now.rules.fleet (top c.args.rehearsal.now) host.index) c.args.hosts.now c.loop-host.host-index _ _ _ _ _
    c.loop-host.invariant c.write_member.ensures refl (omega arith)
