use Rattle.std.proofs.Common.{◌+◌, flat_map}
use Rattle.std.specs.List.{range_with_len}
use Rattle.bounded_io.specs.Writing.{Writes}
use Rattle.fleet_index.specs.NumberLists.{list_at}
use Rattle.recap.specs.PlanText.{batch_line}
use Rattle.recap.proofs.plan.write_batches.Given as goal

abbrev pub invariant-loop-place : goal.invariant-loop-place
invariant-loop-place g l =
    Writes g.W.Write.contents l.initial.text l.text (flat_map (λ place. batch_line l.fleet (place + 1) (list_at l.batches place)) (range_with_len 0 l.place))
