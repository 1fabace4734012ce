use Rattle.std.proofs.Common.{drop, map, string_bytes, sym, ap, ◌+◌, ◌∙◌}
use Rattle.run_progress.specs.Options.{stands_before_the_end}
use Rattle.run_progress.proofs.OptionLemmas.{dropped, stands_here, stands_no_more, stands_on}
use Rattle.run_progress.proofs.options.stands_before_the_end.Goals as goal

pub returns-then-is_word : goal.returns-then-is_word
returns-then-is_word c =
    let name = c.args.name.now in
    let rest = drop (c.loop-word.word-index + 1) (map string_bytes c.args.words.now) in
    let at = dropped string_bytes c.args.words.now c.loop-word.word-index c.word-item.result c.loop-word-test.true c.word-item.is in
    stands_no_more name (string_bytes c.word-item.result) rest (sym c.is_word.ensures ∙ c.if-is_word.true)
    ∙ sym (ap (stands_before_the_end name) at) ∙ c.loop-word.invariant

pub returns-then-is_word-2 : goal.returns-then-is_word-2
returns-then-is_word-2 c =
    let name = c.args.name.now in
    let rest = drop (c.loop-word.word-index + 1) (map string_bytes c.args.words.now) in
    let at = dropped string_bytes c.args.words.now c.loop-word.word-index c.word-item.result c.loop-word-test.true c.word-item.is in
    stands_here name (string_bytes c.word-item.result) rest (sym c.is_word.ensures ∙ c.if-is_word.false) (sym c.is_word-in-loop-word.ensures ∙ c.if-is_word-2.true)
    ∙ sym (ap (stands_before_the_end name) at) ∙ c.loop-word.invariant

pub loop-word-preserved : goal.loop-word-preserved
loop-word-preserved c =
    let name = c.args.name.now in
    let rest = drop (c.loop-word.word-index + 1) (map string_bytes c.args.words.now) in
    let at = dropped string_bytes c.args.words.now c.loop-word.word-index c.word-item.result c.loop-word-test.true c.word-item.is in
    stands_on name (string_bytes c.word-item.result) rest (sym c.is_word.ensures ∙ c.if-is_word.false) (sym c.is_word-in-loop-word.ensures ∙ c.if-is_word-2.false)
    ∙ sym (ap (stands_before_the_end name) at) ∙ c.loop-word.invariant
