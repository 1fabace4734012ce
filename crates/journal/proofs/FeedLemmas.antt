-- Where a line ends, and what its words are.
use Rattle.std.proofs.Common.{◌≡◌, ℕ, ◌+◌, ◌<◌, ◌≤◌, true, List, [], ◌∷◌, ◌++◌, length, take, drop, get_or, sym, ap, ◌∙◌, subst, arith}
use Rattle.std.specs.List.{after_first, before_first, position_or_len, slice_split}
use Rattle.std.proofs.lemmas.Bool.Decides.{nat_tests}
use Rattle.std.proofs.lemmas.List.{drop-drop, drop_all, take_all}
use Rattle.std.proofs.lemmas.List.Folds.{list_any_none}
use Rattle.std.proofs.lemmas.List.Splits.{slice_split_first, slice_split_none}
use Rattle.std.proofs.lemmas.List.Sums.{split_at_first}
use Rattle.journal.specs.Lines.{IsCut, is_feed}
use Rattle.journal.specs.Words.{is_space}
use Rattle.journal.proofs.ByteLemmas.{cut_passes, front_fails, none_passes}

feed_is : (byte : ℕ) → is_feed byte ≡ true → byte ≡ 10
feed_is byte e = grind (arith, nat_tests)

pub cut_there : (bytes front rest behind : List ℕ) (count : ℕ) → count ≡ position_or_len is_feed bytes → count < length bytes
    → front ≡ take count bytes → rest ≡ drop count bytes → behind ≡ drop 1 rest → IsCut bytes front behind
cut_there bytes front rest behind count is within front_is rest_is behind_is =
    let at : position_or_len is_feed bytes < length bytes = omega (arith, is, within) in
    let front_there : front ≡ take (position_or_len is_feed bytes) bytes = front_is ∙ ap (λ n. take n bytes) is in
    let behind_there : behind ≡ drop (position_or_len is_feed bytes + 1) bytes =
    behind_is ∙ ap (drop 1) rest_is ∙ drop-drop 1 count bytes ∙ ap (λ n. drop (n + 1) bytes) is in
    let parts : bytes ≡ take (position_or_len is_feed bytes) bytes ++ 10 ∷ drop (position_or_len is_feed bytes + 1) bytes =
    split_at_first is_feed bytes 0 at
    ∙ ap (λ byte. take (position_or_len is_feed bytes) bytes ++ byte ∷ drop (position_or_len is_feed bytes + 1) bytes)
    (feed_is (get_or bytes (position_or_len is_feed bytes) 0) (cut_passes is_feed bytes at)) in
    subst (λ (l : List ℕ). IsCut bytes l behind) (sym front_there) (subst (IsCut bytes (take (position_or_len is_feed bytes) bytes)) (sym behind_there)
    (record { feedless = list_any_none is_feed (take (position_or_len is_feed bytes) bytes) (front_fails is_feed bytes (position_or_len is_feed bytes) (omega arith)); parts = parts }))

pub one_word : (text word : List ℕ) (count : ℕ) → count ≡ position_or_len is_space text → length text ≤ count → word ≡ take count text → slice_split is_space text ≡ word ∷ []
one_word text word count is past word_is =
    slice_split_none is_space text (none_passes is_space text (omega (arith, is, past))) ∙ ap (λ (w : List ℕ). w ∷ []) (sym (word_is ∙ take_all count text past))

pub nothing_behind : (text : List ℕ) (count : ℕ) → count ≡ position_or_len is_space text → length text ≤ count → [] ≡ after_first is_space text
nothing_behind text count is past = sym (drop_all (position_or_len is_space text + 1) text (omega (arith, is, past)))

pub word_more : (text word rest behind : List ℕ) (count : ℕ) → count ≡ position_or_len is_space text → count < length text
    → word ≡ take count text → rest ≡ drop count text → behind ≡ drop 1 rest → (slice_split is_space text ≡ word ∷ slice_split is_space behind) × (behind ≡ after_first is_space text)
word_more text word rest behind count is within word_is rest_is behind_is =
    let there : behind ≡ after_first is_space text = behind_is ∙ ap (drop 1) rest_is ∙ drop-drop 1 count text ∙ ap (λ n. drop (n + 1) text) is in
    let word_there : word ≡ before_first is_space text = word_is ∙ ap (λ n. take n text) is in (
      slice_split_first is_space text 0 (omega (arith, is, within))
          ∙ ap (λ (w : List ℕ). w ∷ slice_split is_space (after_first is_space text)) (sym word_there)
          ∙ ap (λ (l : List ℕ). word ∷ slice_split is_space l) (sym there),
      there,
    )
