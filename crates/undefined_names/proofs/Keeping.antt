-- What is kept of the names that the steps of a play register.
use Rattle.std.proofs.Common.{◌≡◌, ℕ, ◌<◌, ◌≤◌, Bool, true, false, cond, nat_lt, ◌||◌, ◌&&◌, Bor, List, refl, sym, ap, ◌∙◌, arith, Option, Some, None}
use Rattle.std.specs.Prelude.{bytes_eq}
use Rattle.std.specs.HashMap.{HashMap, UpdatesBy}
use Rattle.std.proofs.lemmas.Bool.{ltb-true, ltb-false, lt-ltb, le-ltb}
use Rattle.std.proofs.lemmas.Map.Text.{hash_map_updates_str}
use Rattle.std.proofs.lemmas.Slice.Eq.{bytes_eq-Decides}
use Rattle.group_tree.specs.Names.{Name, same_name}
use Rattle.undefined_names.specs.Places.{is_before, is_kept_before, place_of}

or_none : (a : Bool) → (a || false) ≡ a
or_none true = refl
or_none false = refl

or_any : (a b : Bool) → a ≡ true → (a || b) ≡ true
or_any true b is = refl
or_any false b is = absurd (cc)

-- what stood before is enough where it stood before this place
already : (o : Option ℕ) (since count : ℕ) (same : Bool) → is_before since o ≡ true → is_before count o ≡ (is_before count o || (nat_lt since count && same))
already None since count same is = absurd (cc)
already (Some place) since count same is = by_case (nat_lt since count) refl
  where
    by_case : (b : Bool) → nat_lt since count ≡ b → nat_lt place count ≡ (nat_lt place count || (nat_lt since count && same))
    by_case true later =
        let low : place < since = ltb-true place since is in
        let high : since < count = ltb-true since count later in
        let there : nat_lt place count ≡ true = lt-ltb place count (omega (arith, low, high)) in
        there ∙ sym (or_any (nat_lt place count) (nat_lt since count && same) there)
    by_case false later =
        sym (ap (λ b. nat_lt place count || (b && same)) later ∙ or_none (nat_lt place count))

-- what did not stand before this place stands from here on
from_here : (o : Option ℕ) (since count : ℕ) → is_before since o ≡ false → nat_lt since count ≡ (is_before count o || (nat_lt since count && true))
from_here None since count is = by_bool (nat_lt since count)
  where
    by_bool : (b : Bool) → b ≡ (false || (b && true))
    by_bool true = refl
    by_bool false = refl
from_here (Some place) since count is = by_case (nat_lt since count) refl
  where
    or_true : (b : Bool) → true ≡ (b || (true && true))
    or_true true = refl
    or_true false = refl

    by_case : (b : Bool) → nat_lt since count ≡ b → nat_lt since count ≡ (nat_lt place count || (nat_lt since count && true))
    by_case true later =
        later ∙ or_true (nat_lt place count) ∙ sym (ap (λ b. nat_lt place count || (b && true)) later)
    by_case false later =
        let low : since ≤ place = ltb-false place since is in
        let high : count ≤ since = ltb-false since count later in
        let there : nat_lt place count ≡ false = le-ltb place count (omega (arith, low, high)) in
        later ∙ sym (ap (λ b. nat_lt place count || (b && true)) later ∙ or_none (nat_lt place count) ∙ there)

not_here : (a b : Bool) → a ≡ (a || (b && false))
not_here true b = refl
not_here false true = refl
not_here false false = refl

-- the name stands there already
pub stays : {S : Type 0} (names : HashMap (Bor (List ℕ)) ℕ S) (key : Name) (since count : ℕ) (name : Name) → is_kept_before names since key ≡ true
    → is_kept_before names count name ≡ (is_kept_before names count name || (nat_lt since count && same_name key name))
stays names key since count name is = by_case (same_name key name) refl
  where
    by_case : (b : Bool) → same_name key name ≡ b → is_kept_before names count name ≡ (is_kept_before names count name || (nat_lt since count && same_name key name))
    by_case true same =
        let named : key ≡ name = (bytes_eq-Decides key name).0 same in
        already (place_of names name) since count (same_name key name) (sym (ap (is_kept_before names since) named) ∙ is)
    by_case false same =
        not_here (is_kept_before names count name) (nat_lt since count) ∙ ap (λ b. is_kept_before names count name || (nat_lt since count && b)) (sym same)

abbrev pub Puts : {S : Type 0} → HashMap (Bor (List ℕ)) ℕ S → HashMap (Bor (List ℕ)) ℕ S → Name → ℕ → Type 0
Puts old new key place =
    UpdatesBy (λ (x y : Bor (List ℕ)). bytes_eq x.now y.now) (λ (k : Bor (List ℕ)). bytes_eq key k.now) old new (Some place)

module _ {S : Type 0} (old new : HashMap (Bor (List ℕ)) ℕ S) (key : Name) (place : ℕ) (puts : Puts old new key place) where
  there : (name : Name) → place_of new name ≡ cond (same_name key name) (Some place) (place_of old name)
  there name = hash_map_updates_str key old new (Some place) puts name

  -- the name did not stand there
  pub put : (count : ℕ) (name : Name) → is_kept_before old place key ≡ false
      → is_kept_before new count name ≡ (is_kept_before old count name || (nat_lt place count && same_name key name))
  put count name is = by_case (same_name key name) refl
    where
      by_case : (b : Bool) → same_name key name ≡ b
          → is_kept_before new count name ≡ (is_kept_before old count name || (nat_lt place count && same_name key name))
      by_case true same =
          let named : key ≡ name = (bytes_eq-Decides key name).0 same in
          ap (is_before count) (there name ∙ ap (λ b. cond b (Some place) (place_of old name)) same)
          ∙ from_here (place_of old name) place count (sym (ap (is_kept_before old place) named) ∙ is)
          ∙ ap (λ b. is_kept_before old count name || (nat_lt place count && b)) (sym same)
      by_case false same =
          ap (is_before count) (there name ∙ ap (λ b. cond b (Some place) (place_of old name)) same)
          ∙ not_here (is_kept_before old count name) (nat_lt place count) ∙ ap (λ b. is_kept_before old count name || (nat_lt place count && b)) (sym same)
