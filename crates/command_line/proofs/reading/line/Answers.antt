use Rattle.std.proofs.Common.{map, string_bytes, subst, sym, ◌∙◌}
use Rattle.std.proofs.lemmas.Result.{IfErr-weaker}
use Rattle.command_line.specs.Answers.{Disagrees}
use Rattle.command_line.proofs.RefusedLemmas.{refused, requested, mismatched, some_words}
use Rattle.command_line.proofs.reading.line.Goals as goal

pub returns-in-Ok-clause-err : goal.returns-in-Ok-clause-err
returns-in-Ok-clause-err c =
    let words = map string_bytes c.args.words.now in
    let some = some_words string_bytes c.args.words.now (sym c.is_empty.ensures ∙ c.if-is_empty.false) in
    IfErr-weaker c.taken.result _ _ (λ fault h. mismatched words fault some c.in-Ok.ensures.kinds (subst (λ found. Disagrees words found fault) c.in-Ok.ensures.ok h)) c.taken.ensures.err

pub returns-in-Err-clause-ok : goal.returns-in-Err-clause-ok
returns-in-Err-clause-ok c =
    let words = map string_bytes c.args.words.now in
    let some = some_words string_bytes c.args.words.now (sym c.is_empty.ensures ∙ c.if-is_empty.false) in
    requested words c.in-Err.error c.answer.result some c.in-Err.ensures.err c.in-Err.ensures.kinds c.answer.ensures

pub returns-in-Err-clause-err : goal.returns-in-Err-clause-err
returns-in-Err-clause-err c =
    let words = map string_bytes c.args.words.now in
    let some = some_words string_bytes c.args.words.now (sym c.is_empty.ensures ∙ c.if-is_empty.false) in
    refused words c.in-Err.error c.answer.result some c.in-Err.ensures.err c.in-Err.ensures.kinds c.answer.ensures
