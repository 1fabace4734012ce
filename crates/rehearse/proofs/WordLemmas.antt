-- The first word of a line, and what stands behind it.
use Rattle.std.proofs.Common.{◌≡◌, ℕ, suc, ◌+◌, ◌<◌, Bool, true, false, cond, not, List, [], ◌∷◌, length, take, drop, sym, refl, ap, ◌∙◌, subst, arith, length-drop}
use Rattle.std.specs.Prelude.{filter}
use Rattle.std.specs.List.{slice_split, onto_first, prefix_len}
use Rattle.std.proofs.lemmas.Bool.{lt-ltb}
use Rattle.std.proofs.lemmas.List.{nil_from_length}
use Rattle.std.proofs.lemmas.List.Splits.{slice_split-cons_yes, slice_split-cons_no}
use Rattle.text_syntax.specs.Patterns.{is_filled, without_leading}
use Rattle.text_syntax.proofs.EndLemmas.{without_leading-yes, without_leading-no, first_left}
use Rattle.rehearse.specs.Commands.{is_blank, words_of}

-- how many bytes stand before the first blank
abbrev pub word_length : List ℕ → ℕ
word_length text = prefix_len (λ byte. not (is_blank byte)) text

blank_first : (x : ℕ) (xs : List ℕ) → is_blank x ≡ true → words_of (x ∷ xs) ≡ words_of xs
blank_first x xs e = ap (filter is_filled) (slice_split-cons_yes is_blank x xs e)

-- blanks at the start hold no word
blanks_skipped : (line : List ℕ) → words_of line ≡ words_of (without_leading is_blank line)
blanks_skipped [] = refl
blanks_skipped (x ∷ xs) = by_case (blanks_skipped xs) (is_blank x) refl
  where
    by_case : words_of xs ≡ words_of (without_leading is_blank xs) → (b : Bool) → is_blank x ≡ b → words_of (x ∷ xs) ≡ words_of (without_leading is_blank (x ∷ xs))
    by_case later true e = blank_first x xs e ∙ later ∙ ap words_of (sym (without_leading-yes is_blank x xs e))
    by_case later false e = ap words_of (sym (without_leading-no is_blank x xs e))

length_at_blank : (x : ℕ) (xs : List ℕ) → is_blank x ≡ true → word_length (x ∷ xs) ≡ 0
length_at_blank x xs e = ap (λ b. cond (not b) (1 + word_length xs) 0) e

length_past : (x : ℕ) (xs : List ℕ) → is_blank x ≡ false → word_length (x ∷ xs) ≡ suc (word_length xs)
length_past x xs e =
    let longer : 1 + word_length xs ≡ suc (word_length xs) = omega arith in ap (λ b. cond (not b) (1 + word_length xs) 0) e ∙ longer

-- the first piece of a text, and what the others say
record FirstPiece (text : List ℕ) : Type 0 where
  others : List (List ℕ)
  pieces : slice_split is_blank text ≡ take (word_length text) text ∷ others
  words : words_of (drop (word_length text) text) ≡ filter is_filled others

first_piece : (text : List ℕ) → FirstPiece text
first_piece [] = record { others = []; pieces = refl; words = refl }
first_piece (x ∷ xs) = by_case (first_piece xs) (is_blank x) refl
  where
    by_case : FirstPiece xs → (b : Bool) → is_blank x ≡ b → FirstPiece (x ∷ xs)
    by_case later true e = record {
      others = slice_split is_blank xs;
      pieces = slice_split-cons_yes is_blank x xs e ∙ sym (ap (λ n. take n (x ∷ xs) ∷ slice_split is_blank xs) (length_at_blank x xs e));
      words = ap (λ n. words_of (drop n (x ∷ xs))) (length_at_blank x xs e) ∙ blank_first x xs e;
    }
    by_case later false e = record {
      others = later.others;
      pieces = slice_split-cons_no is_blank x xs e ∙ ap (onto_first x) later.pieces ∙ sym (ap (λ n. take n (x ∷ xs) ∷ later.others) (length_past x xs e));
      words = ap (λ n. words_of (drop n (x ∷ xs))) (length_past x xs e) ∙ later.words;
    }

-- a text that begins with no blank begins with a word
begins_word : (y : ℕ) (ys : List ℕ) → is_blank y ≡ false
    → words_of (y ∷ ys) ≡ take (word_length (y ∷ ys)) (y ∷ ys) ∷ words_of (drop (word_length (y ∷ ys)) (y ∷ ys))
begins_word y ys e =
    let text : List ℕ = y ∷ ys in
    let piece = first_piece text in
    let word : List ℕ = take (word_length text) text in
    let some : 0 < length word = omega (arith, ap (λ n. length (take n text)) (length_past y ys e)) in
    let filled : is_filled word ≡ true = lt-ltb 0 (length word) some in
    ap (filter is_filled) piece.pieces
    ∙ ap (λ b. cond b (word ∷ filter is_filled piece.others) (filter is_filled piece.others)) filled
    ∙ ap (λ rest. word ∷ rest) (sym piece.words)

pub no_word : (line text : List ℕ) (count : ℕ) → count ≡ prefix_len is_blank line → text ≡ drop count line → length text ≡ 0 → words_of line ≡ []
no_word line text count blanks is none =
    blanks_skipped line ∙ ap (λ n. words_of (drop n line)) (sym blanks) ∙ ap words_of (sym is ∙ nil_from_length text none)

-- the word in front is taken off, and what is left is shorter
pub record TakesWord (line word rest : List ℕ) : Type 0 where
  pub words : words_of line ≡ word ∷ words_of rest
  pub shorter : length rest < length line

pub takes_word : (line text : List ℕ) (count size : ℕ) → count ≡ prefix_len is_blank line → text ≡ drop count line → 0 < length text → size ≡ word_length text
    → TakesWord line (take size text) (drop size text)
takes_word line text count size blanks is some long =
    let left = first_left is_blank line (omega (arith, some, ap length begun)) in
    let front : text ≡ left.0 ∷ left.1 = begun ∙ left.2 in
    let here : words_of text ≡ take (word_length text) text ∷ words_of (drop (word_length text) text) =
    subst (λ (t : List ℕ). words_of t ≡ take (word_length t) t ∷ words_of (drop (word_length t) t)) (sym front) (begins_word left.0 left.1 left.3) in
    let more : word_length text ≡ suc (word_length left.1) = ap word_length front ∙ length_past left.0 left.1 left.3 in
    record {
      words = blanks_skipped line ∙ ap words_of (sym begun) ∙ here ∙ ap (λ n. take n text ∷ words_of (drop n text)) (sym long);
      shorter = omega (arith, more, long, some, length-drop size text, ap length is, length-drop count line);
    }
  where
    begun : text ≡ without_leading is_blank line
    begun = is ∙ ap (λ n. drop n line) blanks
