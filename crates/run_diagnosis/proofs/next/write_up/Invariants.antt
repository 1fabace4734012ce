use Rattle.std.proofs.Common.{◌++◌, flat_map, get_or}
use Rattle.std.specs.List.{range_with_len}
use Rattle.bounded_io.specs.Writing.{Writes}
use Rattle.domains.specs.Ids.{host_numbers}
use Rattle.domains.specs.Numbered.{host_at}
use Rattle.run_diagnosis.specs.Nexts.{gap_text}
use Rattle.run_diagnosis.proofs.next.write_up.Given as goal

abbrev pub invariant-loop-place : goal.invariant-loop-place
invariant-loop-place g l =
    Writes g.W.Write.contents l.initial.text l.text
    (flat_map (λ place. gap_text place ++ host_at l.fleet.hosts (get_or (host_numbers l.hosts) place 0)) (range_with_len 0 l.place))
