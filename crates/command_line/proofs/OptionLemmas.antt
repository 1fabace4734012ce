-- The option of a run: the text of its value, and what it leaves of the words.
use Rattle.std.proofs.Common.{◌≡◌, ◌<◌, ◌≤◌, ◌^◌, ◌&&◌, ℕ, Bool, true, false, eqb, List, [], ◌∷◌, ◌++◌, Option, Some, None, codes, cond, refl, sym, ap, subst, ◌∙◌, option_map, take, drop, arith}
use Rattle.std.specs.Prelude.{nat_le, unwrap_or}
use Rattle.std.specs.Option.{option_map_or}
use Rattle.std.specs.Str.{bytes_eq}
use Rattle.std.specs.Str.Parse.{digits_value, without_leading_plus}
use Rattle.std.proofs.lemmas.Bool.{eqb-true, leb-true, lt-ltb}
use Rattle.std.proofs.lemmas.List.{take-append-drop}
use Rattle.std.proofs.lemmas.Slice.Eq.{bytes_eq-Decides}
use Rattle.std.proofs.lemmas.Str.Parse.{digit_from_value}
use Rattle.clap.specs.ValueTests.{accepts}
use Rattle.clap.specs.declared.builder.value_parser.ValueParser.TheVariants.{Unsigned}
use Rattle.clap.proofs.WalkLemmas.{both}
use Rattle.command_line.specs.Forks.{default_text, forks_in, is_number}
use Rattle.command_line.specs.Operands.{Word, dashes, is_operand}
use Rattle.command_line.specs.Options.{behind, first_and_rest}
use Rattle.command_line.specs.Runs.{leading_option, without_option}
use Rattle.command_line.proofs.AcceptedLemmas.{value_of_operand}
use Rattle.command_line.proofs.ForksLemmas.{number_from}
use Rattle.command_line.proofs.RunShapes.{IsText, with_option}
use Rattle.command_line.proofs.RunWordsLemmas.{left_at_dashes, left_behind}

-- the text is one of which clap reads a number of forks
abbrev pub Writes : Word → Type 0
Writes text = IsText (Unsigned 1 64) text

number_is_operand : (text : Word) → is_number (without_leading_plus text) ≡ true → is_operand text ≡ true
number_is_operand [] number = refl
number_is_operand (a ∷ []) number = refl
number_is_operand (a ∷ b ∷ rest) number = go (eqb a 45) refl
  where
    go : (dash : Bool) → eqb a 45 ≡ dash → cond dash false true ≡ true
    go true at =
        let bad : is_number (without_leading_plus (45 ∷ b ∷ rest)) ≡ true = subst (λ c. is_number (without_leading_plus (c ∷ b ∷ rest)) ≡ true) (eqb-true a 45 at) number in
        absurd (omega (arith, digit_from_value 45 (number_from (45 ∷ b ∷ rest) bad).1.0))
    go false at = refl

-- clap's reader of whole numbers takes a text that writes a number of forks
writes_by : (text : Word) (n : ℕ) (number within : Bool) → is_number (without_leading_plus text) ≡ number
    → (nat_le 1 (digits_value 10 (without_leading_plus text)) && nat_le (digits_value 10 (without_leading_plus text)) 64) ≡ within
    → cond number (cond within (Some (digits_value 10 (without_leading_plus text))) None) None ≡ Some n → Writes text
writes_by text n true true number within read =
    let value = digits_value 10 (without_leading_plus text) in
    let most : value ≤ 64 = leb-true value 64 (both (nat_le 1 value) (nat_le value 64) within).1 in
    let fits : value < 2 ^ 64 = omega (arith, most) in
    let taken : accepts false (Unsigned 1 64) text ≡ true = rw (number, within, lt-ltb value (2 ^ 64) fits) refl in
    record { accepted = taken; value = value_of_operand text (number_is_operand text number) }
writes_by text n true false number within read = cc
writes_by text n false within number is read = cc

pub writes : (text : Word) (n : ℕ) → forks_in text ≡ Some n → Writes text
writes text n read = writes_by text n _ _ refl refl read

-- how the words begin, and what is left of them without their option
pub data View (words : List Word) : Type 0 where
  option : (given : Bool) (text : Word) (rest : List Word) → words ≡ with_option given text rest → without_option words ≡ (rest, Some text) → View words
  ended : without_option words ≡ (words, None) → View words
  operand : (first : Word) (rest : List Word) → words ≡ first ∷ rest → bytes_eq first dashes ≡ false
      → without_option words ≡ (first ∷ (without_option rest).0, (without_option rest).1) → View words

found_left : (first : Word) (rest : List Word) (text : Word) (others : List Word) → leading_option (first ∷ rest) ≡ Some (text, others) → without_option (first ∷ rest) ≡ (others, Some text)
found_left first rest text others found =
    ap (λ o. option_map_or (λ (p : Word × List Word). (p.1, Some p.0)) o
    (cond (bytes_eq first dashes) (first ∷ rest, None) (first ∷ (without_option rest).0, (without_option rest).1))) found

attached_by : (first : Word) (rest : List Word) (text : Word) (others : List Word) (begins : Bool) → bytes_eq (take 8 first) (codes "--forks=") ≡ begins
    → option_map {U = Word × List Word} (λ value. (value, rest)) (cond begins (Some (drop 8 first)) None) ≡ Some (text, others) → first ∷ rest ≡ with_option true text others
attached_by first rest text others false at found = cc
attached_by first rest text others true at found =
    let is : (drop 8 first, rest) ≡ (text, others) = cc in
    let start : take 8 first ≡ codes "--forks=" = (bytes_eq-Decides (take 8 first) (codes "--forks=")).0 at in
    let whole : codes "--forks=" ++ drop 8 first ≡ first = ap (λ s. s ++ drop 8 first) (sym start) ∙ take-append-drop 8 first in
    ap (λ w. w ∷ rest) (sym whole) ∙ ap (λ (p : Word × List Word). with_option true p.0 p.1) is

apart_by : (rest : List Word) (text : Word) (others : List Word) → first_and_rest rest ≡ Some (text, others) → codes "--forks" ∷ rest ≡ with_option false text others
apart_by [] text others found = cc
apart_by (value ∷ rest) text others found =
    let is : (value, rest) ≡ (text, others) = cc in ap (λ (p : Word × List Word). with_option false p.0 p.1) is

option_by : (first : Word) (rest : List Word) (text : Word) (others : List Word) (name : Bool) → bytes_eq first (codes "--forks") ≡ name → leading_option (first ∷ rest) ≡ Some (text, others)
    → cond name (first_and_rest rest) (option_map {U = Word × List Word} (λ value. (value, rest)) (behind (codes "--forks=") first)) ≡ Some (text, others) → View (first ∷ rest)
option_by first rest text others true at found by =
    let is : first ≡ codes "--forks" = (bytes_eq-Decides first (codes "--forks")).0 at in
    option false text others (ap (λ w. w ∷ rest) is ∙ apart_by rest text others by) (found_left first rest text others found)
option_by first rest text others false at found by =
    option true text others (attached_by first rest text others (bytes_eq (take 8 first) (codes "--forks=")) refl by) (found_left first rest text others found)

other_by : (first : Word) (rest : List Word) (dash : Bool) → leading_option (first ∷ rest) ≡ None → bytes_eq first dashes ≡ dash → View (first ∷ rest)
other_by first rest true none at = ended (left_at_dashes first rest none at)
other_by first rest false none at = operand first rest refl at (left_behind first rest none at)

view_by : (first : Word) (rest : List Word) (found : Option (Word × List Word)) → leading_option (first ∷ rest) ≡ found → View (first ∷ rest)
view_by first rest None at = other_by first rest (bytes_eq first dashes) at refl
view_by first rest (Some p) at = option_by first rest p.0 p.1 (bytes_eq first (codes "--forks")) refl at at

pub view : (words : List Word) → View words
view [] = ended refl
view (first ∷ rest) = view_by first rest (leading_option (first ∷ rest)) refl

-- the text of the forks, where the option may be left out
abbrev pub text_of : List Word × Option Word → Word
text_of left = unwrap_or left.1 default_text
