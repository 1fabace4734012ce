use Rattle.std.proofs.Common.{sym, ◌∙◌}
use Rattle.playbook_schema.proofs.PlaceLaws.{no_word_here, word_here, no_more_words}
use Rattle.playbook_schema.proofs.command_place.place_of_no_word.Goals as goal

pub loop-index-preserved : goal.loop-index-preserved
loop-index-preserved c =
    word_here c.args.list.now c.loop-index.index c.index-list-index.result c.loop-index-test.true c.index-list-index.is c.loop-index.invariant (sym c.is_word.ensures ∙ c.if-not-is_word.false)

pub returns-then-not-is_word : goal.returns-then-not-is_word
returns-then-not-is_word c =
    no_word_here c.args.list.now c.loop-index.index c.index-list-index.result c.loop-index-test.true c.index-list-index.is c.loop-index.invariant (sym c.is_word.ensures ∙ c.if-not-is_word.true)

pub returns : goal.returns
returns c = no_more_words c.args.list.now c.loop-index.index c.loop-index-test.false c.loop-index.invariant
