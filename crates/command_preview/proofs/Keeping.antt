-- What is kept of the names that steps register.
use Rattle.std.proofs.Common.{◌≡◌, ℕ, zero, suc, ◌+◌, ◌-◌, ◌<◌, ◌≤◌, Bool, true, false, cond, nat_lt, ◌||◌, ◌&&◌, Bor, List, [], ◌∷◌, ◌++◌, length, take, get_or, refl, sym, ap, ◌∙◌, arith}
use Rattle.std.proofs.Common.{Option, Some, None, Result, Ok, Err, append-nil}
use Rattle.std.specs.Prelude.{OnOk, OnErr, bytes_eq}
use Rattle.std.specs.HashMap.{HashMap, UpdatesBy, IsUnchanged}
use Rattle.std.specs.Map.{lookup}
use Rattle.std.proofs.lemmas.Bool.{ltb-true, ltb-false, lt-ltb, le-ltb}
use Rattle.std.proofs.lemmas.List.{take-append-le, take_more}
use Rattle.std.proofs.lemmas.List.Concat.{flat_map-append}
use Rattle.std.proofs.lemmas.List.Folds.{list_any-append}
use Rattle.std.proofs.lemmas.Map.Text.{hash_map_updates_str}
use Rattle.std.proofs.lemmas.Slice.Eq.{bytes_eq-Decides}
use Rattle.std.proofs.Math.Seq.{take-append-add}
use Rattle.group_tree.specs.Names.{Name, same_name}
use Rattle.play_model.specs.declared.play.Play.{Play}
use Rattle.host_track.specs.Summaries.{does_register}
use Rattle.command_preview.specs.Unsure.{is_registered, steps_of}
use Rattle.command_preview.specs.Holes.{AreHoles, hole_of, hole_texts, is_before, is_kept_before}
use Rattle.command_preview.specs.declared.hole.Hole.{Hole}

or_none : (a : Bool) → (a || false) ≡ a
or_none true = refl
or_none false = refl

or_any : (a b : Bool) → a ≡ true → (a || b) ≡ true
or_any true b is = refl
or_any false b is = absurd (cc)

-- what stood before is enough where it stood before this place
already : (o : Option Hole) (since count : ℕ) (same : Bool) → is_before since o ≡ true → is_before count o ≡ (is_before count o || (nat_lt since count && same))
already None since count same is = absurd (cc)
already (Some hole) since count same is = by_case (nat_lt since count) refl
  where
    by_case : (b : Bool) → nat_lt since count ≡ b → nat_lt hole.since count ≡ (nat_lt hole.since count || (nat_lt since count && same))
    by_case true later =
        let low : hole.since < since = ltb-true hole.since since is in
        let high : since < count = ltb-true since count later in
        let there : nat_lt hole.since count ≡ true = lt-ltb hole.since count (omega (arith, low, high)) in
        there ∙ sym (or_any (nat_lt hole.since count) (nat_lt since count && same) there)
    by_case false later =
        sym (ap (λ b. nat_lt hole.since count || (b && same)) later ∙ or_none (nat_lt hole.since count))

-- what did not stand before this place stands from here on
from_here : (o : Option Hole) (since count : ℕ) → is_before since o ≡ false → nat_lt since count ≡ (is_before count o || (nat_lt since count && true))
from_here None since count is = by_bool (nat_lt since count)
  where
    by_bool : (b : Bool) → b ≡ (false || (b && true))
    by_bool true = refl
    by_bool false = refl
from_here (Some hole) since count is = by_case (nat_lt since count) refl
  where
    or_true : (b : Bool) → true ≡ (b || (true && true))
    or_true true = refl
    or_true false = refl

    by_case : (b : Bool) → nat_lt since count ≡ b → nat_lt since count ≡ (nat_lt hole.since count || (nat_lt since count && true))
    by_case true later =
        later ∙ or_true (nat_lt hole.since count) ∙ sym (ap (λ b. nat_lt hole.since count || (b && true)) later)
    by_case false later =
        let low : since ≤ hole.since = ltb-false hole.since since is in
        let high : count ≤ since = ltb-false since count later in
        let there : nat_lt hole.since count ≡ false = le-ltb hole.since count (omega (arith, low, high)) in
        later ∙ sym (ap (λ b. nat_lt hole.since count || (b && true)) later ∙ or_none (nat_lt hole.since count) ∙ there)

not_here : (a b : Bool) → a ≡ (a || (b && false))
not_here true b = refl
not_here false true = refl
not_here false false = refl

-- the name stands there already
pub stays : {S : Type 0} (names : HashMap (Bor (List ℕ)) Hole S) (key : Name) (since count : ℕ) (name : Name) → is_kept_before names since key ≡ true
    → is_kept_before names count name ≡ (is_kept_before names count name || (nat_lt since count && same_name key name))
stays names key since count name is = by_case (same_name key name) refl
  where
    by_case : (b : Bool) → same_name key name ≡ b → is_kept_before names count name ≡ (is_kept_before names count name || (nat_lt since count && same_name key name))
    by_case true same =
        let named : key ≡ name = (bytes_eq-Decides key name).0 same in
        already (hole_of names name) since count (same_name key name) (sym (ap (is_kept_before names since) named) ∙ is)
    by_case false same =
        not_here (is_kept_before names count name) (nat_lt since count) ∙ ap (λ b. is_kept_before names count name || (nat_lt since count && b)) (sym same)

abbrev pub Puts : {S : Type 0} → HashMap (Bor (List ℕ)) Hole S → HashMap (Bor (List ℕ)) Hole S → Name → Hole → Type 0
Puts old new key hole =
    UpdatesBy (λ (x y : Bor (List ℕ)). bytes_eq x.now y.now) (λ (k : Bor (List ℕ)). bytes_eq key k.now) old new (Some hole)

module _ {S : Type 0} (old new : HashMap (Bor (List ℕ)) Hole S) (key : Name) (hole : Hole) (puts : Puts old new key hole) where
  there : (name : Name) → hole_of new name ≡ cond (same_name key name) (Some hole) (hole_of old name)
  there name = hash_map_updates_str key old new (Some hole) puts name

  pub texts_put : AreHoles old → hole.texts ≡ hole_texts key → AreHoles new
  texts_put are texts name found is = by_case (same_name key name) refl
    where
      by_case : (b : Bool) → same_name key name ≡ b → found.texts ≡ hole_texts name
      by_case true same =
          let here : Some hole ≡ Some found = sym (there name ∙ ap (λ b. cond b (Some hole) (hole_of old name)) same) ∙ is in
          let one : hole ≡ found = cc in
          let named : key ≡ name = (bytes_eq-Decides key name).0 same in
          ap (λ (h : Hole). h.texts) (sym one) ∙ texts ∙ ap hole_texts named
      by_case false same = are name found (sym (there name ∙ ap (λ b. cond b (Some hole) (hole_of old name)) same) ∙ is)

  -- the name did not stand there
  pub put : (count : ℕ) (name : Name) → is_kept_before old hole.since key ≡ false
      → is_kept_before new count name ≡ (is_kept_before old count name || (nat_lt hole.since count && same_name key name))
  put count name is = by_case (same_name key name) refl
    where
      by_case : (b : Bool) → same_name key name ≡ b
          → is_kept_before new count name ≡ (is_kept_before old count name || (nat_lt hole.since count && same_name key name))
      by_case true same =
          let named : key ≡ name = (bytes_eq-Decides key name).0 same in
          ap (is_before count) (there name ∙ ap (λ b. cond b (Some hole) (hole_of old name)) same)
          ∙ from_here (hole_of old name) hole.since count (sym (ap (is_kept_before old hole.since) named) ∙ is)
          ∙ ap (λ b. is_kept_before old count name || (nat_lt hole.since count && b)) (sym same)
      by_case false same =
          ap (is_before count) (there name ∙ ap (λ b. cond b (Some hole) (hole_of old name)) same)
          ∙ not_here (is_kept_before old count name) (nat_lt hole.since count) ∙ ap (λ b. is_kept_before old count name || (nat_lt hole.since count && b)) (sym same)

-- whether memory was refused or not
pub texts_kept : {S T E : Type 0} (old new : HashMap (Bor (List ℕ)) Hole S) (key : Name) (hole : Hole) (result : Result T E) → AreHoles old → hole.texts ≡ hole_texts key
    → OnOk result (Puts old new key hole) → OnErr result (IsUnchanged old new) → AreHoles new
texts_kept old new key hole (Ok v) are texts puts unchanged = texts_put old new key hole puts are texts
texts_kept old new key hole (Err e) are texts puts unchanged =
    λ name found is. are name found (ap (lookup (λ (k : Bor (List ℕ)). same_name name k.now)) (sym unchanged) ∙ is)

abbrev no_entry : {A : Type 0} → List A
no_entry = []

take-nothing : {A : Type 0} (n : ℕ) → take n (no_entry {A = A}) ≡ no_entry {A = A}
take-nothing zero = refl
take-nothing (suc n) = refl

-- so many of two lists, one behind the other
take-both : {A : Type 0} (xs ys : List A) (count : ℕ) → take count (xs ++ ys) ≡ take count xs ++ take (count - length xs) ys
take-both {A} xs ys count = by_case (nat_lt (length xs) count) refl
  where
    by_case : (b : Bool) → nat_lt (length xs) count ≡ b → take count (xs ++ ys) ≡ take count xs ++ take (count - length xs) ys
    by_case true is =
        let more : length xs < count = ltb-true (length xs) count is in
        let sum : count ≡ length xs + (count - length xs) = omega (arith, more) in
        let all : take (length xs + (count - length xs)) (xs ++ []) ≡ xs ++ take (count - length xs) [] = take-append-add xs [] (count - length xs) in
        let none : take (count - length xs) [] ≡ no_entry {A = A} = take-nothing {A = A} (count - length xs) in
        let whole : take count xs ≡ xs =
        ap (take count) (sym (append-nil xs)) ∙ ap (λ n. take n (xs ++ [])) sum ∙ all ∙ ap (λ l. xs ++ l) none ∙ append-nil xs in
        ap (λ n. take n (xs ++ ys)) sum ∙ take-append-add xs ys (count - length xs) ∙ ap (λ l. l ++ take (count - length xs) ys) (sym whole)
    by_case false is =
        let few : count ≤ length xs = ltb-false (length xs) count is in
        let none : count - length xs ≡ 0 = omega (arith, few) in
        take-append-le count xs ys few ∙ sym (ap (λ n. take count xs ++ take n ys) none ∙ append-nil (take count xs))

-- a play more
pub play_more : (plays : List Play) (i since count : ℕ) (play : Play) (name : Name) → i < length plays → play ≡ get_or plays i play → since ≡ length (steps_of (take i plays))
    → (is_registered (take count (steps_of (take i plays))) name || is_registered (take (count - since) play.steps.items) name)
    ≡ is_registered (take count (steps_of (take (i + 1) plays))) name
play_more plays i since count play name within is behind =
    let steps = steps_of (take i plays) in
    let one : steps_of (play ∷ []) ≡ play.steps.items = append-nil play.steps.items in
    let grown : steps_of (take (i + 1) plays) ≡ steps ++ play.steps.items =
    ap steps_of (take_more plays i play within) ∙ ap (λ p. steps_of (take i plays ++ p ∷ [])) (sym is)
    ∙ flat_map-append (λ (p : Play). p.steps.items) (take i plays) (play ∷ []) ∙ ap (λ l. steps ++ l) one in
    let parts : take count (steps ++ play.steps.items) ≡ take count steps ++ take (count - since) play.steps.items =
    take-both steps play.steps.items count ∙ ap (λ n. take count steps ++ take (count - n) play.steps.items) (sym behind) in
    sym
    (ap (λ l. is_registered (take count l) name) grown ∙ ap (λ l. is_registered l name) parts
    ∙ list_any-append (does_register name) (take count steps) (take (count - since) play.steps.items))
