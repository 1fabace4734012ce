use Rattle.std.proofs.Common.{◌∙◌, arith}
use Rattle.run_diagnosis.proofs.RowLemmas.{told_more}
use Rattle.run_diagnosis.proofs.rows.note_all.Goals as goal

pub loop-event-preserved : goal.loop-event-preserved
loop-event-preserved c =
    let was = c.loop-event.invariant in (
      c.note.ensures.len ∙ was.0,
      λ host within. told_more c.args.number c.args.steps.now host _ _ _ c.args.log.now c.loop-event.event-index _ c.loop-event-test.true c.event-item.is (was.1 host within)
          (c.note.ensures.rows host (omega (arith, within, was.0))),
    )
