use Rattle.std.proofs.Common.{take}
use Rattle.bounded_io.specs.Writing.{Writes}
use Rattle.domains.specs.Ids.{host_numbers}
use Rattle.domains.specs.Numbered.{host_at}
use Rattle.json_output.specs.Arrays.{entries_text, quoted}
use Rattle.json_output.proofs.names.write_each_name.Given as goal

abbrev pub invariant-loop-place : goal.invariant-loop-place
invariant-loop-place g l =
    Writes g.W.Write.contents l.initial.text l.text (entries_text (λ place host. quoted (host_at l.fleet.hosts host)) (host_numbers (take l.place l.hosts)))
