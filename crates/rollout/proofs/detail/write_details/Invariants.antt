use Rattle.std.proofs.Common.{flat_map, take}
use Rattle.bounded_io.specs.Writing.{Writes}
use Rattle.rollout.specs.Details.{shown}
use Rattle.rollout.specs.FaultLines.{detail_in}
use Rattle.rollout.proofs.detail.write_details.Given as goal

abbrev pub invariant-loop-detail : goal.invariant-loop-detail
invariant-loop-detail g l =
    Writes g.W.Write.contents l.initial.text l.text (flat_map (λ d. detail_in l.form (shown d)) (take l.detail-index l.details))
