-- Lines, and the words by which a batch is known.
use Rattle.std.proofs.Common.{◌≡◌, ℕ, zero, suc, ◌+◌, ◌<◌, ◌≤◌, Bool, true, false, not, List, [], ◌∷◌, ◌++◌, length, take, drop, refl, sym, ap, ◌∙◌, arith}
use Rattle.std.specs.Prelude.{codes, decimal}
use Rattle.std.specs.List.{list_all, position_or_len, slice_split, before_first, after_first}
use Rattle.std.specs.Str.{IsAscii, IsUtf8, bytes_eq}
use Rattle.std.proofs.lemmas.Bool.{and_parts, false_from_ne_true}
use Rattle.std.proofs.lemmas.Bool.Decides.{nat_tests}
use Rattle.std.proofs.lemmas.Slice.Eq.{bytes_eq-Decides}
use Rattle.std.proofs.lemmas.Str.{IsUtf8-from_ascii}
use Rattle.group_tree.specs.Names.{is_name, is_name_byte}
use Rattle.std.proofs.lemmas.List.{append_cancel_right, drop-drop, take_all}
use Rattle.std.proofs.lemmas.List.Elements.{All-from_get_or}
use Rattle.std.proofs.lemmas.List.Splits.{slice_split_first, slice_split_none}
use Rattle.std.proofs.lemmas.List.Sums.{fails_before_first, prefix_len-le-length}
use Rattle.rehearse.specs.Lines.{is_feed}
use Rattle.plan_check.specs.Listings.{label, lines_of}

pub line_within : (text : List ℕ) → position_or_len is_feed text ≤ length text
line_within text = prefix_len-le-length (λ byte. not (is_feed byte)) text

pub one_line : (text line : List ℕ) (count : ℕ) → count ≡ position_or_len is_feed text → length text ≤ count → line ≡ take count text → lines_of text ≡ line ∷ []
one_line text line count is past line_is =
    slice_split_none is_feed text (All-from_get_or (λ byte. is_feed byte ≡ false) text 0 (λ i l. fails_before_first is_feed text i 0 (omega (arith, is, past))))
    ∙ ap (λ (l : List ℕ). l ∷ []) (sym (line_is ∙ take_all count text past))

pub line_more : (text line rest behind : List ℕ) (count : ℕ) → count ≡ position_or_len is_feed text → count < length text
    → line ≡ take count text → rest ≡ drop count text → behind ≡ drop 1 rest → lines_of text ≡ line ∷ lines_of behind
line_more text line rest behind count is within line_is rest_is behind_is =
    let there : behind ≡ after_first is_feed text = behind_is ∙ ap (drop 1) rest_is ∙ drop-drop 1 count text ∙ ap (λ n. drop (n + 1) text) is in
    let line_there : line ≡ before_first is_feed text = line_is ∙ ap (λ n. take n text) is in
    slice_split_first is_feed text 0 (omega (arith, is, within))
    ∙ ap (λ (l : List ℕ). l ∷ slice_split is_feed (after_first is_feed text)) (sym line_there)
    ∙ ap (λ (l : List ℕ). line ∷ slice_split is_feed l) (sym there)

-- two tests that pass together are one
pub agree : (a b : Bool) → (a ≡ true → b ≡ true) → (b ≡ true → a ≡ true) → a ≡ b
agree true b to from = sym (to refl)
agree false true to from = from refl
agree false false to from = refl

-- a word that ends in a colon is a label where what stands before the colon is the number
pub label_same : (word digits : List ℕ) (number : ℕ) → word ≡ digits ++ codes ":" → bytes_eq digits (decimal number) ≡ bytes_eq word (label number)
label_same word digits number is = agree (bytes_eq digits (decimal number)) (bytes_eq word (label number)) to from
  where
    to : bytes_eq digits (decimal number) ≡ true → bytes_eq word (label number) ≡ true
    to e = (bytes_eq-Decides word (label number)).1 (is ∙ ap (λ l. l ++ codes ":") ((bytes_eq-Decides digits (decimal number)).0 e))

    from : bytes_eq word (label number) ≡ true → bytes_eq digits (decimal number) ≡ true
    from e =
        (bytes_eq-Decides digits (decimal number)).1
        (append_cancel_right digits (decimal number) (codes ":") (sym is ∙ (bytes_eq-Decides word (label number)).0 e))

-- a word that ends otherwise is none
pub no_label : (word : List ℕ) (number : ℕ) → ((front : List ℕ) → word ≡ front ++ codes ":" → ⊥) → false ≡ bytes_eq word (label number)
no_label word number ends = sym (false_from_ne_true (bytes_eq word (label number)) (λ e. ends (decimal number) ((bytes_eq-Decides word (label number)).0 e)))

name_ascii : (bytes : List ℕ) → list_all is_name_byte bytes ≡ true → IsAscii bytes
name_ascii [] are i = omega arith
name_ascii (byte ∷ bytes) are zero = let here = (and_parts (is_name_byte byte) (list_all is_name_byte bytes) are).0 in grind (arith, nat_tests)
name_ascii (byte ∷ bytes) are (suc i) = name_ascii bytes (and_parts (is_name_byte byte) (list_all is_name_byte bytes) are).1 i

-- what is no UTF-8 is no name
pub no_name : (word : List ℕ) → (IsUtf8 word → ⊥) → false ≡ is_name word
no_name word not_utf8 =
    sym (false_from_ne_true (is_name word) (λ e. not_utf8 (IsUtf8-from_ascii word (name_ascii word (and_parts _ (list_all is_name_byte word) e).1))))
