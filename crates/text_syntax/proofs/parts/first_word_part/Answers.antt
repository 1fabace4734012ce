use Rattle.std.proofs.Common.{◌∙◌, sym}
use Rattle.text_syntax.specs.Seen.{said}
use Rattle.text_syntax.proofs.PartLemmas.{parts_of-empty, is_filled, first_is}
use Rattle.text_syntax.proofs.parts.first_word_part.Goals as goal

pub returns-then-is_empty-clause-parts : goal.returns-then-is_empty-clause-parts
returns-then-is_empty-clause-parts c =
    parts_of-empty c.args.word.now (sym c.is_empty.ensures ∙ c.if-is_empty.true)

pub returns-clause-parts : goal.returns-clause-parts
returns-clause-parts c =
    (first_is c.args.word.now c.cut_part.result.1.now (said c.cut_part.result.0) c.cut_part.ensures.part c.cut_part.ensures.rest (is_filled c.args.word.now (sym c.is_empty.ensures ∙ c.if-is_empty.false))).0

pub returns-clause-shorter : goal.returns-clause-shorter
returns-clause-shorter c =
    (first_is c.args.word.now c.cut_part.result.1.now (said c.cut_part.result.0) c.cut_part.ensures.part c.cut_part.ensures.rest (is_filled c.args.word.now (sym c.is_empty.ensures ∙ c.if-is_empty.false))).1
