use Rattle.std.proofs.Common.{◌≡◌, ◌<◌, ◌≤◌, ◌∷◌, ◌++◌, List, ℕ, length, take, drop, not, sym, ap, ◌∙◌, subst, arith}
use Rattle.std.specs.List.{prefix_len}
use Rattle.std.proofs.lemmas.Bool.Decides.{nat_tests}
use Rattle.std.proofs.lemmas.List.Sums.{prefix_len-le-length}
use Rattle.rehearse.specs.Commands.{is_blank, words_of}
use Rattle.rehearse.proofs.WordLemmas.{TakesWord, no_word, takes_word, word_length}
use Rattle.rehearse.proofs.words.cut_word.Goals as goal

pub split_at-requires : goal.split_at-requires
split_at-requires c = omega (arith, c.count_blanks.ensures, prefix_len-le-length is_blank c.args.line.now)

pub returns-then-is_empty-clause-words : goal.returns-then-is_empty-clause-words
returns-then-is_empty-clause-words c =
    let none : length c.split_at.result.1.now ≡ 0 = grind (arith, nat_tests, c.is_empty.ensures, c.if-is_empty.true) in
    no_word c.args.line.now c.split_at.result.1.now c.count_blanks.result c.count_blanks.ensures c.split_at.ensures.back none

pub split_at-requires-2 : goal.split_at-requires-2
split_at-requires-2 c = omega (arith, c.count_word.ensures, prefix_len-le-length (λ byte. not (is_blank byte)) c.split_at.result.1.now)

pub returns-clause-words : goal.returns-clause-words
returns-clause-words c =
    let some : 0 < length c.split_at.result.1.now = grind (arith, nat_tests, c.is_empty.ensures, c.if-is_empty.false) in
    let takes : TakesWord c.args.line.now (take c.count_word.result c.split_at.result.1.now) (drop c.count_word.result c.split_at.result.1.now) =
    takes_word c.args.line.now c.split_at.result.1.now c.count_blanks.result c.count_word.result c.count_blanks.ensures c.split_at.ensures.back some c.count_word.ensures in
    takes.words ∙ ap (λ (word : List ℕ). word ∷ words_of (drop c.count_word.result c.split_at.result.1.now)) (sym c.split_at-2.ensures.front)
    ∙ ap (λ (rest : List ℕ). c.split_at-2.result.0.now ∷ words_of rest) (sym c.split_at-2.ensures.back)

pub returns-clause-shorter : goal.returns-clause-shorter
returns-clause-shorter c =
    let some : 0 < length c.split_at.result.1.now = grind (arith, nat_tests, c.is_empty.ensures, c.if-is_empty.false) in
    let takes : TakesWord c.args.line.now (take c.count_word.result c.split_at.result.1.now) (drop c.count_word.result c.split_at.result.1.now) =
    takes_word c.args.line.now c.split_at.result.1.now c.count_blanks.result c.count_word.result c.count_blanks.ensures c.split_at.ensures.back some c.count_word.ensures in
    subst (λ (rest : List ℕ). length rest < length c.args.line.now) (sym c.split_at-2.ensures.back) takes.shorter
