use Rattle.std.proofs.Common.{flat_map}
use Rattle.std.specs.List.{range_with_len}
use Rattle.bounded_io.specs.Writing.{Writes}
use Rattle.domains.specs.Numbered.{host_at}
use Rattle.fleet_states.specs.Statuses.{status_at}
use Rattle.rehearse.specs.PlainReplies.{status_line}
use Rattle.rehearse.proofs.show.write_statuses.Given as goal

abbrev pub invariant-loop-index : goal.invariant-loop-index
invariant-loop-index g l =
    Writes g.W.Write.contents l.initial.text l.text
    (flat_map (λ host. status_line (host_at l.fleet.hosts host) (status_at l.statuses host)) (range_with_len 0 l.index))
