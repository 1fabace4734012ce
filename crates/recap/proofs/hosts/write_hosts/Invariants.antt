use Rattle.std.proofs.Common.{flat_map}
use Rattle.std.specs.List.{range_with_len}
use Rattle.bounded_io.specs.Writing.{Writes}
use Rattle.fleet_states.specs.Statuses.{status_at}
use Rattle.recap.specs.RecapText.{counts_at, host_line_of}
use Rattle.recap.proofs.hosts.write_hosts.Given as goal

abbrev pub invariant-loop-index : goal.invariant-loop-index
invariant-loop-index g l =
    Writes g.W.Write.contents l.initial.text l.text
    (flat_map (λ host. host_line_of l.fleet host (status_at l.statuses host) (counts_at l.counts host)) (range_with_len 0 l.index))
