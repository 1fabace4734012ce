use Rattle.std.proofs.Common.{◌∙◌, arith}
use Rattle.run_diagnosis.proofs.RowLemmas.{plays_more}
use Rattle.run_diagnosis.proofs.rows.last_rows.Goals as goal

pub loop-place-preserved : goal.loop-place-preserved
loop-place-preserved c =
    let was = c.loop-place.invariant in (
      c.note_all.ensures.len ∙ was.0,
      λ host within. plays_more host _ _ c.steps.result.now c.args.played.now c.loop-place.place c.index-played-place.result c.loop-place-test.true
          c.index-played-place.is c.steps.ensures.value (was.1 host within) (c.note_all.ensures.rows host (omega (arith, within, was.0))),
    )
