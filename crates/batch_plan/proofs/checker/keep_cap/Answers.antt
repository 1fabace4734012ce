use Rattle.std.proofs.Common.{◌<◌, length, sym, ◌∙◌, arith}
use Rattle.domains.specs.Ids.{host_numbers}
use Rattle.batch_plan.specs.Checks.{keeps_cap}
use Rattle.batch_plan.proofs.CheckLemmas.{batch_fails, batch_passes}
use Rattle.batch_plan.proofs.checker.keep_cap.Goals as goal

pub returns-then-not-keeps_cap : goal.returns-then-not-keeps_cap
returns-then-not-keeps_cap c =
    let inside : c.loop-place.place < length c.args.batches.now = omega arith in
    sym (batch_fails c.args.batches.now c.loop-place.place inside (host_numbers c.at.result.now) c.at.ensures (keeps_cap c.args.statuses.now c.args.cap)
    (sym c.keeps_cap.ensures ∙ c.if-not-keeps_cap.true))

pub loop-place-preserved : goal.loop-place-preserved
loop-place-preserved c =
    let inside : c.loop-place.place < length c.args.batches.now = omega arith in
    batch_passes c.args.batches.now c.loop-place.place inside (host_numbers c.at.result.now) c.at.ensures (keeps_cap c.args.statuses.now c.args.cap)
    (sym c.keeps_cap.ensures ∙ c.if-not-keeps_cap.false) c.loop-place.invariant
