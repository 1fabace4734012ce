-- The options among words, word by word.
use Rattle.std.proofs.Common.{◌≡◌, ◌&&◌, ◌++◌, ◌∷◌, Bool, true, false, not, cond, List, [], Option, Some, None, refl, sym, ap, ◌∙◌, append_assoc}
use Rattle.std.specs.Prelude.{option_and_then}
use Rattle.std.specs.Str.{bytes_eq}
use Rattle.command_line.specs.Operands.{Word, dashes}
use Rattle.command_line.specs.OptionReads.{OptionMatch, Reading, Spelling, awaits, flag, holds, leading, read, read_behind, spelled, taken, with_given, with_spelled, with_word}
use Rattle.command_line.specs.declared.option_name.OptionName.{OptionName}

abbrev pub goes_on : Bool → Word → Bool
goes_on front word = front && not (bytes_eq word dashes)

abbrev pub Found : Type 0
Found = OptionName × Word × List Word

abbrev same_found : Found → Found → Type 0
same_found a b = a ≡ b

-- the words and the options that were kept, before what the words that are left come to
abbrev pub joined : List Word → List OptionMatch → Reading → Reading
joined kept given reading = record { plain = kept ++ reading.plain; given = given ++ reading.given }

abbrev pub one : OptionName → Word → OptionMatch
one option value = record { option = option; value = value }

module _ (options : List OptionName) where
  -- what the words come to where options may still come, or not any more
  abbrev pub left : Bool → List Word → Reading
  left front words = cond front (read options words) (record { plain = words; given = [] })

  found_by : (found : Option Spelling) (word : Word) (words : List Word) (option : OptionName) (value : Word) (rest : List Word)
      → elim found as (λ o. Option Found) [ None ↦ None | Some s ↦ taken s words ] ≡ Some (option, value, rest)
      → with_spelled found word (read options words) (read_behind options words) ≡ with_given option value (read options rest)
  found_by None word words option value rest at = cc
  found_by (Some (flag o)) word words option value rest at =
      let is : same_found (o, [], words) (option, value, rest) = cc in ap (λ (p : Found). with_given p.0 p.1 (read options p.2)) is
  found_by (Some (holds o v)) word words option value rest at =
      let is : same_found (o, v, words) (option, value, rest) = cc in ap (λ (p : Found). with_given p.0 p.1 (read options p.2)) is
  found_by (Some (awaits o)) word [] option value rest at = cc
  found_by (Some (awaits o)) word (next ∷ words) option value rest at =
      let is : same_found (o, next, words) (option, value, rest) = cc in ap (λ (p : Found). with_given p.0 p.1 (read options p.2)) is

  other_by : (found : Option Spelling) (word : Word) (words : List Word) → elim found as (λ o. Option Found) [ None ↦ None | Some s ↦ taken s words ] ≡ None
      → with_spelled found word (read options words) (read_behind options words) ≡ with_word word (read options words)
  other_by None word words at = refl
  other_by (Some (flag o)) word words at = cc
  other_by (Some (holds o v)) word words at = cc
  other_by (Some (awaits o)) word [] at = refl
  other_by (Some (awaits o)) word (next ∷ words) at = cc

  -- an option stands at the beginning of the words
  step_found : (front dash : Bool) (word : Word) (words : List Word) (option : OptionName) (value : Word) (rest : List Word) → bytes_eq word dashes ≡ dash
      → cond (front && not dash) (leading options word words) None ≡ Some (option, value, rest) → left front (word ∷ words) ≡ with_given option value (left (front && not dash) rest)
  step_found false dash word words option value rest at found = cc
  step_found true true word words option value rest at found = cc
  step_found true false word words option value rest at found = rw at (found_by (spelled options word) word words option value rest (by_cases (spelled options word) words ∙ found))
    where
      by_cases : (found : Option Spelling) (words : List Word)
          → elim found as (λ o. Option Found) [ None ↦ None | Some s ↦ taken s words ] ≡ option_and_then (λ s. taken s words) found
      by_cases None words = refl
      by_cases (Some s) words = refl

  -- another word stands there
  step_other : (front dash : Bool) (word : Word) (words : List Word) → bytes_eq word dashes ≡ dash
      → cond (front && not dash) (leading options word words) None ≡ None → left front (word ∷ words) ≡ with_word word (left (front && not dash) words)
  step_other false dash word words at none = refl
  step_other true true word words at none = rw at refl
  step_other true false word words at none = rw at (other_by (spelled options word) word words (by_cases (spelled options word) words ∙ none))
    where
      by_cases : (found : Option Spelling) (words : List Word)
          → elim found as (λ o. Option Found) [ None ↦ None | Some s ↦ taken s words ] ≡ option_and_then (λ s. taken s words) found
      by_cases None words = refl
      by_cases (Some s) words = refl

  pub goes_by_option : (kept : List Word) (given more : List OptionMatch) (all : Reading) (front : Bool) (word : Word) (words : List Word) (option : OptionName) (value : Word) (rest : List Word)
      → cond (goes_on front word) (leading options word words) None ≡ Some (option, value, rest) → more ≡ given ++ one option value ∷ []
      → joined kept given (left front (word ∷ words)) ≡ all → joined kept more (left (goes_on front word) rest) ≡ all
  goes_by_option kept given more all front word words option value rest found is was =
      let reading = left (goes_on front word) rest in
      ap (λ g. joined kept g reading) is ∙ ap (λ (g : List OptionMatch). record { plain = kept ++ reading.plain; given = g }) (append_assoc given (one option value ∷ []) reading.given)
      ∙ sym (ap (joined kept given) (step_found front (bytes_eq word dashes) word words option value rest refl found)) ∙ was

  pub goes_by_word : (kept more : List Word) (given : List OptionMatch) (all : Reading) (front : Bool) (word : Word) (words : List Word)
      → cond (goes_on front word) (leading options word words) None ≡ None → more ≡ kept ++ word ∷ []
      → joined kept given (left front (word ∷ words)) ≡ all → joined more given (left (goes_on front word) words) ≡ all
  goes_by_word kept more given all front word words none is was =
      let reading = left (goes_on front word) words in
      ap (λ k. joined k given reading) is ∙ ap (λ (k : List Word). record { plain = k; given = given ++ reading.given }) (append_assoc kept (word ∷ []) reading.plain)
      ∙ sym (ap (joined kept given) (step_other front (bytes_eq word dashes) word words refl none)) ∙ was
