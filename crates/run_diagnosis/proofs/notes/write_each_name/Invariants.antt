use Rattle.std.proofs.Common.{take, flat_map}
use Rattle.bounded_io.specs.Writing.{Writes}
use Rattle.group_tree.specs.declared.ids.HostId.{HostId}
use Rattle.recap.specs.PlanText.{spaced_name}
use Rattle.run_diagnosis.proofs.notes.write_each_name.Given as goal

abbrev pub invariant-loop-host : goal.invariant-loop-host
invariant-loop-host g l =
    Writes g.W.Write.contents l.initial.text l.text (flat_map (λ (host : HostId). spaced_name l.fleet host.index) (take l.host-index l.hosts))
