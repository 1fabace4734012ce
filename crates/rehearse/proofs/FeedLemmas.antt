-- Where a line ends.
use Rattle.std.proofs.Common.{◌≡◌, ℕ, zero, suc, ◌+◌, ◌<◌, ◌≤◌, Bool, true, false, ◌||◌, cond, nat_lt, Option, None, Some, List, [], ◌∷◌, ◌++◌, length, take, drop, get_or, sym, refl, ap, ◌∙◌, subst, arith, length-append, length-take}
use Rattle.std.specs.List.{list_any, position, position_or_len}
use Rattle.std.proofs.lemmas.Bool.{ltb-true, cases_Bool}
use Rattle.std.proofs.lemmas.Bool.Decides.{nat_tests}
use Rattle.std.proofs.lemmas.List.{drop-drop, drop_more, get_or-take, take-append-drop, take-append-le, length-take-le}
use Rattle.std.proofs.lemmas.List.Elements.{All-from_get_or}
use Rattle.std.proofs.lemmas.List.Folds.{list_any-append, list_any_none}
use Rattle.std.proofs.lemmas.List.Quantifiers.{position-Some}
use Rattle.std.proofs.lemmas.List.Sums.{fails_before_first}
use Rattle.rehearse.specs.Lines.{HasNoFeed, IsCut, IsLong, is_feed, max_line}

feed_is : (byte : ℕ) → is_feed byte ≡ true → byte ≡ 10
feed_is byte e = grind (arith, nat_tests)

none_below : (bytes : List ℕ) (place : ℕ) → place ≤ length bytes → ((k : ℕ) → k < place → is_feed (get_or bytes k 0) ≡ false) → HasNoFeed (take place bytes)
none_below bytes place within before =
    let long : length (take place bytes) ≡ place = length-take-le place bytes within in
    list_any_none is_feed (take place bytes)
    (All-from_get_or (λ byte. is_feed byte ≡ false) (take place bytes) 0 (λ i l. ap is_feed (get_or-take place bytes i 0 (omega (arith, l, long))) ∙ before i (omega (arith, l, long))))

-- the first line feed parts the bytes
pub record IsCutAt (place : ℕ) (bytes : List ℕ) : Type 0 where
  pub within : place < length bytes
  pub cut : IsCut bytes (take place bytes) (drop (place + 1) bytes)

pub cut_at : (place : ℕ) (bytes : List ℕ) → Some place ≡ position is_feed bytes → IsCutAt place bytes
cut_at place bytes is =
    let found = position-Some is_feed bytes place 0 (sym is) in
    record {
      within = found.0;
      cut = record {
        feedless = none_below bytes place (omega (arith, found.0)) found.2;
        parts = sym (take-append-drop place bytes) ∙ ap (λ l. take place bytes ++ l) (drop_more bytes place 0 found.0)
            ∙ ap (λ byte. take place bytes ++ byte ∷ drop (place + 1) bytes) (feed_is (get_or bytes place 0) found.1);
      };
    }

-- the same of bytes that were split there, and again behind the line feed
pub split_there : (place : ℕ) (bytes front rest behind : List ℕ) → IsCutAt place bytes → front ≡ take place bytes → rest ≡ drop place bytes → behind ≡ drop 1 rest → IsCut bytes front behind
split_there place bytes front rest behind at front_is rest_is behind_is =
    let behind_at : behind ≡ drop (place + 1) bytes = behind_is ∙ ap (drop 1) rest_is ∙ drop-drop 1 place bytes in
    subst (λ (l : List ℕ). IsCut bytes l behind) (sym front_is) (subst (IsCut bytes (take place bytes)) (sym behind_at) at.cut)

pub uncut : (bytes : List ℕ) → None ≡ position is_feed bytes → HasNoFeed bytes
uncut bytes is = by_test (nat_lt (position_or_len is_feed bytes) (length bytes)) refl
  where
    all_before : length bytes ≤ position_or_len is_feed bytes → HasNoFeed bytes
    all_before past =
        list_any_none is_feed bytes (All-from_get_or (λ byte. is_feed byte ≡ false) bytes 0 (λ i l. fails_before_first is_feed bytes i 0 (omega (arith, l, past))))

    by_test : (b : Bool) → nat_lt (position_or_len is_feed bytes) (length bytes) ≡ b → HasNoFeed bytes
    by_test true e =
        let some : position is_feed bytes ≡ Some (position_or_len is_feed bytes) = ap (λ b. cond b (Some (position_or_len is_feed bytes)) None) e in
        absurd (cc)
    by_test false e = all_before (grind (arith, nat_tests))

pub feedless_both : (xs ys : List ℕ) → HasNoFeed xs → HasNoFeed ys → HasNoFeed (xs ++ ys)
feedless_both xs ys e f = list_any-append is_feed xs ys ∙ ap (λ b. b || list_any is_feed ys) e ∙ f

feedless_front : (count : ℕ) (xs : List ℕ) → HasNoFeed xs → HasNoFeed (take count xs)
feedless_front zero xs e = refl
feedless_front (suc count) [] e = refl
feedless_front (suc count) (x ∷ xs) e = by_case (λ f. feedless_front count xs f) (is_feed x) refl
  where
    by_case : (HasNoFeed xs → HasNoFeed (take count xs)) → (b : Bool) → is_feed x ≡ b → HasNoFeed (take (suc count) (x ∷ xs))
    by_case later true f =
        let all : list_any is_feed (x ∷ xs) ≡ true = ap (λ b. b || list_any is_feed xs) f in
        absurd (cc)
    by_case later false f =
        ap (λ b. b || list_any is_feed (take count xs)) f ∙ later (sym (ap (λ b. b || list_any is_feed xs) f) ∙ e)

-- more than a line stands in front
pub long_in_front : (front behind : List ℕ) → HasNoFeed front → max_line < length front → IsLong (front ++ behind)
long_in_front front behind e long = record {
  feedless = subst HasNoFeed (sym (take-append-le (max_line + 1) front behind (omega (arith, long)))) (feedless_front (max_line + 1) front e);
  long = omega (arith, long, length-append front behind);
}
