-- The first entry of lists that stand one behind the other.
use Rattle.std.proofs.Common.{◌≡◌, ℕ, zero, suc, ◌+◌, ◌<◌, Bor, Option, Some, None, List, [], ◌∷◌, ◌++◌, map, option_map, flat_map, drop, length, slice_get, refl, sym, ap, ◌∙◌, arith}
use Rattle.std.specs.Option.{option_or}
use Rattle.domains.specs.Ids.{host_numbers}
use Rattle.group_tree.specs.Names.{Name}
use Rattle.group_tree.specs.declared.ids.HostId.{HostId}
use Rattle.undefined_names.specs.Lent.{lent_names}
use Rattle.undefined_names.specs.NoValues.{all_given, first_of}

pub first_append : {X : Type 0} (xs ys : List X) → first_of (xs ++ ys) ≡ option_or (first_of xs) (first_of ys)
first_append [] ys = refl
first_append (x ∷ xs) ys = refl

-- in the lists that hosts give
abbrev pub first_each : {Y : Type 0} → (ℕ → List Y) → List HostId → Option Y
first_each gives [] = None
first_each gives (host ∷ hosts) = option_or (first_of (gives host.index)) (first_each gives hosts)

pub first_each_is : {Y : Type 0} (gives : ℕ → List Y) (hosts : List HostId) → first_each gives hosts ≡ first_of (flat_map gives (host_numbers hosts))
first_each_is gives [] = refl
first_each_is gives (host ∷ hosts) =
    ap (option_or (first_of (gives host.index))) (first_each_is gives hosts) ∙ sym (first_append (gives host.index) (flat_map gives (host_numbers hosts)))

-- in the lists that the entries of a list give, each at its place
abbrev pub first_at : {X Y : Type 0} → (ℕ → X → List Y) → ℕ → List X → Option Y
first_at gives place [] = None
first_at gives place (x ∷ xs) = option_or (first_of (gives place x)) (first_at gives (place + 1) xs)

pub first_at_is : {X Y : Type 0} (gives : ℕ → X → List Y) (place : ℕ) (xs : List X) → first_at gives place xs ≡ first_of (all_given gives place xs)
first_at_is gives place [] = refl
first_at_is gives place (x ∷ xs) =
    ap (option_or (first_of (gives place x))) (first_at_is gives (place + 1) xs) ∙ sym (first_append (gives place x) (all_given gives (place + 1) xs))

pub none_is : {X : Type 0} (xs : List X) → first_of xs ≡ None → xs ≡ []
none_is [] none = refl
none_is (x ∷ xs) none = absurd (cc)

-- the first of the names gives the first miss
pub miss_first : {Y : Type 0} (miss : Name → Y) (names : List (Bor Name)) (name : Bor Name) (told : List Name) → lent_names names ≡ told → Some name ≡ slice_get names 0
    → Some (miss name.now) ≡ first_of (map miss told)
miss_first miss [] name told same is = absurd (cc)
miss_first miss (first ∷ names) name told same is =
    let one : name ≡ first = cc in
    ap (λ (of : Bor Name). Some (miss of.now)) one ∙ ap (λ (l : List Name). first_of (map miss l)) same

pub miss_none : {Y : Type 0} (miss : Name → Y) (names : List (Bor Name)) (told : List Name) → lent_names names ≡ told → None ≡ slice_get names 0 → None ≡ first_of (map miss told)
miss_none miss [] told same is = ap (λ (l : List Name). first_of (map miss l)) same
miss_none miss (first ∷ names) told same is = absurd (cc)

-- at a place of a list, where what is given hangs on the place alone
pub next_place : {X Y : Type 0} (gives : ℕ → List Y) (xs : List X) (i place : ℕ) → i < length xs
    → first_at (λ (n : ℕ) (x : X). gives n) place (drop i xs) ≡ option_or (first_of (gives place)) (first_at (λ (n : ℕ) (x : X). gives n) (place + 1) (drop (suc i) xs))
next_place gives [] i place low = absurd (omega (arith, low))
next_place gives (x ∷ xs) zero place low = refl
next_place gives (x ∷ xs) (suc i) place low = next_place gives xs i place (omega (arith, low))

pub stops : {X Y : Type 0} (seen : X → Y) (found : Option X) (here rest : Option Y) → option_map seen found ≡ here → (found ≡ None → ⊥) → option_map seen found ≡ option_or here rest
stops seen None here rest same some = absurd (some refl)
stops seen (Some x) here rest same some = ap (λ o. option_or o rest) same
