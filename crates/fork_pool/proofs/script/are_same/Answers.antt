use Rattle.std.proofs.Common.{◌<◌, ◌++◌, ◌∷◌, [], List, length, get_or, take, sym, ap, ◌∙◌, arith}
use Rattle.std.proofs.lemmas.List.{length-map, take_more}
use Rattle.fork_pool.specs.ScriptLines.{Line}
use Rattle.fork_pool.specs.ScriptRows.{line_of, lines_of}
use Rattle.fork_pool.proofs.RowLemmas.{line_at}
use Rattle.fork_pool.proofs.script.are_same.Goals as goal

pub returns-then-not-is_same : goal.returns-then-not-is_same
returns-then-not-is_same c =
    let rows = c.args.rows.now in
    let others = c.args.others.now in
    let place = c.loop-place.place in
    let row = c.index-rows-place.result in
    let other = c.index-others-place.result in
    let within : place < length others = omega (arith, c.if-rows-others.false, c.loop-place-test.true) in (
      λ yes. absurd (cc),
      λ same.
          let here = sym (line_at rows place row row (line_of row) c.loop-place-test.true c.index-rows-place.is) ∙ ap (λ (l : List Line). get_or l place (line_of row)) same ∙ line_at others place other other (line_of row) within c.index-others-place.is in
          sym c.if-not-is_same.true ∙ c.is_same.ensures.1 here,
    )

pub loop-place-preserved : goal.loop-place-preserved
loop-place-preserved c =
    let rows = c.args.rows.now in
    let others = c.args.others.now in
    let place = c.loop-place.place in
    let row = c.index-rows-place.result in
    let other = c.index-others-place.result in
    let within : place < length others = omega (arith, c.if-rows-others.false, c.loop-place-test.true) in
    let one = line_at rows place row row (line_of row) c.loop-place-test.true c.index-rows-place.is in
    let two = line_at others place other other (line_of row) within c.index-others-place.is in
    let first : place < length (lines_of rows) = omega (arith, c.loop-place-test.true, length-map rows line_of) in
    let second : place < length (lines_of others) = omega (arith, within, length-map others line_of) in
    take_more (lines_of rows) place (line_of row) first
    ∙ ap (λ (l : List Line). l ++ get_or (lines_of rows) place (line_of row) ∷ []) c.loop-place.invariant
    ∙ ap (λ (x : Line). take place (lines_of others) ++ x ∷ []) (one ∙ c.is_same.ensures.0 c.if-not-is_same.false ∙ sym two)
    ∙ sym (take_more (lines_of others) place (line_of row) second)
