use Rattle.std.proofs.Common.{take, flat_map}
use Rattle.bounded_io.specs.Writing.{Writes}
use Rattle.group_tree.specs.declared.ids.HostId.{HostId}
use Rattle.rehearse.specs.Stacks.{top}
use Rattle.rehearse.specs.Hosts.{member_line}
use Rattle.rehearse.proofs.hosts.write_each_member.Given as goal

abbrev pub invariant-loop-host : goal.invariant-loop-host
invariant-loop-host g l =
    Writes g.W.Write.contents l.initial.text l.text
    (flat_map (λ (host : HostId). member_line l.rehearsal.rules.fleet (top l.rehearsal) host.index) (take l.host-index l.hosts))
