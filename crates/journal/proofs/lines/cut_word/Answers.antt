use Rattle.std.proofs.Common.{◌≡◌, ◌<◌, ℕ, length, take, ap, ◌∙◌, arith}
use Rattle.std.proofs.lemmas.Bool.Decides.{nat_tests}
use Rattle.journal.specs.Words.{is_space}
use Rattle.journal.proofs.ByteLemmas.{cut_within}
use Rattle.journal.proofs.FeedLemmas.{nothing_behind, one_word, word_more}
use Rattle.journal.proofs.lines.cut_word.Goals as goal

pub split_at-requires : goal.split_at-requires
split_at-requires c = omega (arith, c.count_word.ensures, cut_within is_space c.args.text.now)

pub returns-then-is_empty-clause-word : goal.returns-then-is_empty-clause-word
returns-then-is_empty-clause-word c = c.split_at.ensures.front ∙ ap (λ (n : ℕ). take n c.args.text.now) c.count_word.ensures

pub returns-then-is_empty-clause-words : goal.returns-then-is_empty-clause-words
returns-then-is_empty-clause-words c =
    let none : length c.split_at.result.1.now ≡ 0 = grind (arith, nat_tests, c.is_empty.ensures, c.if-is_empty.true) in
    one_word c.args.text.now c.split_at.result.0.now c.count_word.result c.count_word.ensures (omega (arith, none, c.split_at.ensures.back_len)) c.split_at.ensures.front

pub returns-then-is_empty-clause-behind : goal.returns-then-is_empty-clause-behind
returns-then-is_empty-clause-behind c =
    let none : length c.split_at.result.1.now ≡ 0 = grind (arith, nat_tests, c.is_empty.ensures, c.if-is_empty.true) in
    nothing_behind c.args.text.now c.count_word.result c.count_word.ensures (omega (arith, none, c.split_at.ensures.back_len))

pub returns-clause-word : goal.returns-clause-word
returns-clause-word c = c.split_at.ensures.front ∙ ap (λ (n : ℕ). take n c.args.text.now) c.count_word.ensures

pub returns-clause-words : goal.returns-clause-words
returns-clause-words c =
    let some : 0 < length c.split_at.result.1.now = grind (arith, nat_tests, c.is_empty.ensures, c.if-is_empty.false) in
    (word_more c.args.text.now c.split_at.result.0.now c.split_at.result.1.now c.split_at-2.result.1.now c.count_word.result c.count_word.ensures
    (omega (arith, some, c.split_at.ensures.back_len)) c.split_at.ensures.front c.split_at.ensures.back c.split_at-2.ensures.back).0

pub returns-clause-behind : goal.returns-clause-behind
returns-clause-behind c =
    let some : 0 < length c.split_at.result.1.now = grind (arith, nat_tests, c.is_empty.ensures, c.if-is_empty.false) in
    (word_more c.args.text.now c.split_at.result.0.now c.split_at.result.1.now c.split_at-2.result.1.now c.count_word.result c.count_word.ensures
    (omega (arith, some, c.split_at.ensures.back_len)) c.split_at.ensures.front c.split_at.ensures.back c.split_at-2.ensures.back).1
