-- What `parse` reads of digits, and the text before a percent sign.
use Rattle.std.proofs.Common.{◌≡◌, ◌≢◌, ℕ, ◌-◌, ◌<◌, ◌≤◌, Bool, true, false, ◌&&◌, ◌==◌, Some, None, Result, Err, List, [], ◌∷◌, ◌++◌, length, take, drop, nat_le, refl, sym, ap, ◌∙◌, suc, subst, arith, drop-cons}
use Rattle.std.specs.Prelude.{slice_index, if◌then◌else◌}
use Rattle.std.specs.List.{list_all}
use Rattle.std.specs.Char.{is_ascii_digit}
use Rattle.std.specs.Result.{OkIff}
use Rattle.std.specs.Str.{all_ascii_digits}
use Rattle.std.specs.Str.Parse.{digits_value, ParsesUnsigned}
use Rattle.std.proofs.lemmas.Bool.{and_parts, leb-true, eqb-true}
use Rattle.std.proofs.lemmas.List.{take-append-drop, drop_all}
use Rattle.std.proofs.lemmas.Str.Parse.{tells_all_ascii_digits, numerals_by_value, parse_digits}
use Rattle.text_syntax.specs.Numerals.{are_digits, number_in_digits, percentage_in}

same_digits : (text : List ℕ) → list_all is_ascii_digit text ≡ all_ascii_digits text
same_digits [] = refl
same_digits (digit ∷ text) = ap (λ rest. is_ascii_digit digit && rest) (same_digits text)

none_unless : (test : Bool) (text : List ℕ) → (test ≡ true → (0 < length text) × (digits_value 10 text < 65536)) → ¬ ((0 < length text) × (digits_value 10 text < 65536)) → (if test then Some (digits_value 10 text) else None) ≡ None
none_unless false text parts unread = refl
none_unless true text parts unread = absurd (unread (parts refl))

-- if `parse` rejects digits, there are none, or their number exceeds 65,535
pub number_unread : {E : Type 0} (digits most : ℕ) (text : List ℕ) (read : Result ℕ E) (error : E) → most < 65536 → read ≡ Err error → ParsesUnsigned 16 10 text read → list_all is_ascii_digit text ≡ true → None ≡ number_in_digits digits most text
number_unread digits most text read error small is parses all =
    sym (none_unless (are_digits digits text && nat_le (digits_value 10 text) most) text parts unread)
  where
    unread : ¬ ((0 < length text) × (digits_value 10 text < 65536))
    unread =
        subst (λ r. OkIff r ((0 < length text) × (digits_value 10 text < 65536)) (digits_value 10 text)) is (parse_digits (numerals_by_value _ tells_all_ascii_digits) 16 text read parses (sym (same_digits text) ∙ all))

    parts : (are_digits digits text && nat_le (digits_value 10 text) most) ≡ true → (0 < length text) × (digits_value 10 text < 65536)
    parts both =
        let halves = and_parts (are_digits digits text) (nat_le (digits_value 10 text) most) both in
        let bounds = and_parts (nat_le 1 (length text) && nat_le (length text) digits) (list_all is_ascii_digit text) halves.0 in
        let value : digits_value 10 text ≤ most = leb-true (digits_value 10 text) most halves.1 in
        (leb-true 1 (length text) (and_parts (nat_le 1 (length text)) (nat_le (length text) digits) bounds.0).0, omega arith)

ends_in : (text : List ℕ) (byte : ℕ) → 0 < length text → slice_index text (length text - 1) ≡ byte → text ≡ take (length text - 1) text ++ byte ∷ []
ends_in text byte some is =
    let last : drop (length text - 1) text ≡ byte ∷ [] =
    drop-cons text (length text - 1) 0 (omega arith) ∙ ap (λ (b : ℕ). b ∷ drop (suc (length text - 1)) text) is ∙ ap (λ (rest : List ℕ). byte ∷ rest) (drop_all (suc (length text - 1)) text (omega arith)) in
    sym (take-append-drop (length text - 1) text) ∙ ap (λ rest. take (length text - 1) text ++ rest) last

no_sign : (text : List ℕ) (test : Bool) → (slice_index text (length text - 1) == 37) ≡ test → ((front : List ℕ) → text ≢ front ++ 37 ∷ []) → (if test then number_in_digits 3 100 (take (length text - 1) text) else None) ≡ None
no_sign text false is none = refl
no_sign [] true is none = absurd (omega (arith, eqb-true 0 37 is))
no_sign (first ∷ text) true is none =
    absurd (none _ (ends_in (first ∷ text) 37 (omega arith) (eqb-true _ 37 is)))

pub percentage_without_sign : (text : List ℕ) → ((front : List ℕ) → text ≢ front ++ 37 ∷ []) → None ≡ percentage_in text
percentage_without_sign text none = sym (no_sign text _ refl none)
