use Rattle.std.proofs.Common.{arith, refl}
use Rattle.bounded_io.proofs.Pieces.{writes_each}
use Rattle.rollout.specs.Details.{shown}
use Rattle.rollout.specs.FaultLines.{detail_in}
use Rattle.rollout.proofs.detail.write_details.Goals as goal

pub loop-detail-preserved : goal.loop-detail-preserved
loop-detail-preserved g c =
    writes_each _ (λ d. detail_in c.args.form (shown d)) c.args.details.now c.loop-detail.detail-index _ _ _ _ _ c.loop-detail.invariant c.write_detail.ensures refl (omega arith)
