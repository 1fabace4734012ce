use Rattle.std.proofs.Common.{take, flat_map}
use Rattle.bounded_io.specs.Writing.{Writes}
use Rattle.group_tree.specs.declared.ids.HostId.{HostId}
use Rattle.run_progress.specs.JsonStrings.{next_host}
use Rattle.run_progress.proofs.json_strings.write_each_host.Given as goal

abbrev pub invariant-loop-host : goal.invariant-loop-host
invariant-loop-host g l =
    Writes g.W.Write.contents l.initial.text l.text (flat_map (λ (host : HostId). next_host l.fleet host.index) (take l.host-index l.hosts))
