-- Expectations, one after the other, and what ends a name.
use Rattle.std.proofs.Common.{◌≡◌, ℕ, ◌+◌, ◌-◌, ◌≤◌, ◌<◌, ◌++◌, Bool, true, false, not, cond, eqb, Option, None, Some}
use Rattle.std.proofs.Common.{List, [], ◌∷◌, length, get_or, take, drop, map, refl, sym, ap, ◌∙◌, arith, append_assoc, append-nil}
use Rattle.std.specs.Prelude.{is_some, option_and_then, option_map}
use Rattle.std.specs.List.{find}
use Rattle.std.proofs.lemmas.Bool.{eqb-true, false_from_ne_true}
use Rattle.std.proofs.lemmas.List.{drop_more, get_or-map, length-map, take_all, take_more}
use Rattle.group_tree.specs.Names.{Name}
use Rattle.text_syntax.specs.Patterns.{parts_of}
use Rattle.expectations.specs.Facts.{Unmet, first_unmet, is_met, unmet_by}
use Rattle.expectations.specs.Shown.{all_shown, shown, unmet_shown}
use Rattle.expectations.specs.declared.expectation.Expectation.{Expectation as Kept}
use Rattle.expectations.specs.Lists.{Expectation, all_said, ends_below, expectation_in, expectations_in, some_said}

module _ (facts : Name → Option ℕ) (xs : List Expectation) (i : ℕ) (x d : Expectation) (within : i < length xs) (is : x ≡ get_or xs i d) where
  left_here : drop i xs ≡ x ∷ drop (i + 1) xs
  left_here = drop_more xs i d within ∙ ap (λ (y : Expectation). y ∷ drop (i + 1) xs) (sym is)

  abbrev told : Bool → Option Unmet
  told b = option_map (unmet_by facts) (cond (not b) (Some x) (find (λ (e : Expectation). not (is_met e (facts e.name))) (drop (i + 1) xs)))

  pub unmet_here : is_met x (facts x.name) ≡ false → first_unmet facts (drop i xs) ≡ Some (unmet_by facts x)
  unmet_here e = ap (first_unmet facts) left_here ∙ ap told e

  pub unmet_later : is_met x (facts x.name) ≡ true → first_unmet facts (drop i xs) ≡ first_unmet facts (drop (i + 1) xs)
  unmet_later e = ap (first_unmet facts) left_here ∙ ap told e

-- bytes that don't end in this byte
pub not_ending : (byte : ℕ) → eqb 0 byte ≡ false → (bytes : List ℕ) → ((front : List ℕ) → bytes ≡ front ++ byte ∷ [] → ⊥) → eqb (get_or bytes (length bytes - 1) 0) byte ≡ false
not_ending byte some [] other = some
not_ending byte some (b ∷ bs) other = false_from_ne_true (eqb (get_or (b ∷ bs) (length (b ∷ bs) - 1) 0) byte) ends
  where
    ends : eqb (get_or (b ∷ bs) (length (b ∷ bs) - 1) 0) byte ≡ true → ⊥
    ends e =
        let bytes : List ℕ = b ∷ bs in
        let last : get_or bytes (length bytes - 1) 0 ≡ byte = eqb-true (get_or bytes (length bytes - 1) 0) byte e in
        let whole : take (length bytes - 1 + 1) bytes ≡ bytes = take_all (length bytes - 1 + 1) bytes (omega arith) in
        other (take (length bytes - 1) bytes)
        (sym whole ∙ take_more bytes (length bytes - 1) 0 (omega arith) ∙ ap (λ n. take (length bytes - 1) bytes ++ n ∷ []) last)

-- bytes that don't end in `<`
pub not_below : (bytes : List ℕ) → ((front : List ℕ) → bytes ≡ front ++ 60 ∷ [] → ⊥) → ends_below bytes ≡ false
not_below = not_ending 60 refl

-- what is read so far stands before what is left
abbrev pub IsReadTo : List ℕ → List Expectation → List ℕ → Type 0
IsReadTo text found left =
    all_said (map expectation_in (parts_of text)) ≡ option_map (λ (es : List Expectation). found ++ es) (all_said (map expectation_in (parts_of left)))

all_none : (found : List Expectation) (o : Option (List Expectation)) → option_map (λ (es : List Expectation). [] ++ es) o ≡ o
all_none found None = refl
all_none found (Some es) = refl

pub read_none : (text : List ℕ) → IsReadTo text [] text
read_none text = sym (all_none [] (all_said (map expectation_in (parts_of text))))

abbrev said_with : Option Expectation → List (Option Expectation) → Option (List Expectation)
said_with o rest = all_said (o ∷ rest)

pub read_more : (text left part rest : List ℕ) (found : List Expectation) (e : Expectation) → IsReadTo text found left
    → parts_of left ≡ part ∷ parts_of rest → Some e ≡ expectation_in part
    → IsReadTo text (found ++ e ∷ []) rest
read_more text left part rest found e read parts is =
    read
    ∙ ap (λ (l : List (List ℕ)). option_map (λ (es : List Expectation). found ++ es) (all_said (map expectation_in l))) parts
    ∙ ap (λ (o : Option Expectation). option_map (λ (es : List Expectation). found ++ es) (said_with o (map expectation_in (parts_of rest)))) (sym is)
    ∙ by_case (all_said (map expectation_in (parts_of rest)))
  where
    by_case : (o : Option (List Expectation))
        → option_map (λ (es : List Expectation). found ++ es) (option_map (λ (es : List Expectation). e ∷ es) o) ≡ option_map (λ (es : List Expectation). (found ++ e ∷ []) ++ es) o
    by_case None = refl
    by_case (Some es) = ap Some (sym (append_assoc found (e ∷ []) es))

pub read_bad : (text left part rest : List ℕ) (found : List Expectation) → IsReadTo text found left → parts_of left ≡ part ∷ parts_of rest → None ≡ expectation_in part
    → expectations_in text ≡ None
read_bad text left part rest found read parts is =
    ap (option_and_then some_said)
    (read
    ∙ ap (λ (l : List (List ℕ)). option_map (λ (es : List Expectation). found ++ es) (all_said (map expectation_in l))) parts
    ∙ ap (λ (o : Option Expectation). option_map (λ (es : List Expectation). found ++ es) (said_with o (map expectation_in (parts_of rest)))) (sym is))

pub read_all : (text left : List ℕ) (found : List Expectation) → IsReadTo text found left → parts_of left ≡ [] → expectations_in text ≡ some_said found
read_all text left found read parts =
    ap (option_and_then some_said)
    (read ∙ ap (λ (l : List (List ℕ)). option_map (λ (es : List Expectation). found ++ es) (all_said (map expectation_in l))) parts ∙ ap Some (append-nil found))

-- the same of expectations as they are kept
module _ (facts : Name → Option ℕ) (es : List Kept) (i : ℕ) (d : Kept) (within : i < length es) (found : Option ℕ) (found_is : found ≡ facts (get_or es i d).name.now) where
  abbrev kept : Kept
  kept = get_or es i d

  inside : i < length (all_shown es)
  inside = omega (arith, within, length-map es shown)

  same : shown kept ≡ get_or (all_shown es) i (shown d)
  same = sym (get_or-map shown es i d (shown d) within)

  pub kept_here : is_met (shown kept) found ≡ false
      → Some (unmet_shown (record { expectation = kept; found = found })) ≡ first_unmet facts (drop i (all_shown es))
  kept_here e =
      sym (unmet_here facts (all_shown es) i (shown kept) (shown d) inside same (ap (is_met (shown kept)) (sym found_is) ∙ e)
      ∙ ap (λ (o : Option ℕ). let unmet : Unmet = record { expectation = shown kept; found = o } in Some unmet) (sym found_is))

  pub kept_later : is_met (shown kept) found ≡ true → first_unmet facts (drop i (all_shown es)) ≡ first_unmet facts (drop (i + 1) (all_shown es))
  kept_later e = unmet_later facts (all_shown es) i (shown kept) (shown d) inside same (ap (is_met (shown kept)) (sym found_is) ∙ e)

pub one_small : (o : Option ℕ) → cond (is_some o) 1 0 ≤ 1
one_small None = omega arith
one_small (Some n) = omega arith
