-- Rows by the numbers of their hosts.
use Rattle.std.proofs.Common.{◌≡◌, ℕ, zero, suc, ◌+◌, ◌<◌, Bool, true, false, ◌||◌, nat_eq, List, [], ◌∷◌, ◌++◌, length, get_or, take, map, sym, ap, ◌∙◌, refl, subst, arith, append-nil}
use Rattle.std.proofs.Math.Bool.{or-false}
use Rattle.std.proofs.lemmas.Grind.{flat_map-append}
use Rattle.std.proofs.lemmas.List.{get_or-map, take_more}
use Rattle.fleet_index.specs.NumberLists.{has_number, IsRising}
use Rattle.fleet_index.proofs.NumberLemmas.{nat_eq_sym}
use Rattle.fleet_index.proofs.RisingLemmas.{rising_is}
use Rattle.group_tree.specs.Names.{Name, same_name, is_among}
use Rattle.group_tree.specs.Variables.{Variable}
use Rattle.group_tree.specs.Subtrees.{Host}
use Rattle.domains.specs.Numbered.{host_at}
use Rattle.host_vars.specs.Own.{listed_at, variables_at}
use Rattle.host_vars.proofs.ValueLemmas.{same_name-sym}

pub alone_rises : (bound number : ℕ) (numbers : List ℕ) → number < bound → numbers ≡ number ∷ [] → IsRising bound numbers
alone_rises bound number numbers within is =
    subst (λ (l : List ℕ). IsRising bound l) (sym is) (rising_is (λ k. has_number k (number ∷ [])) bound (number ∷ []) (omega arith, within, tt) (λ k l. refl))

pub none_rises : (bound : ℕ) (numbers : List ℕ) → numbers ≡ [] → IsRising bound numbers
none_rises bound numbers is =
    subst (λ (l : List ℕ). IsRising bound l) (sym is) (rising_is (λ k. has_number k []) bound [] tt (λ k l. refl))

pub alone_is : (hosts : List Name) (name : Name) (number host : ℕ) (numbers : List ℕ) → numbers ≡ number ∷ []
    → same_name name (host_at hosts host) ≡ nat_eq number host → has_number host numbers ≡ same_name (host_at hosts host) name
alone_is hosts name number host numbers is agree =
    ap (has_number host) is ∙ or-false (nat_eq host number) ∙ nat_eq_sym host number ∙ sym agree ∙ same_name-sym name (host_at hosts host)

absent : (name : Name) (hosts : List Name) (host : ℕ) → host < length hosts → is_among name hosts ≡ false → same_name name (host_at hosts host) ≡ false
absent name [] host within e = absurd (omega arith)
absent name (first ∷ hosts) zero within e = left (same_name name first) e
  where
    left : (a : Bool) → (a || is_among name hosts) ≡ false → a ≡ false
    left true e = e
    left false e = refl
absent name (first ∷ hosts) (suc host) within e =
    absent name hosts host (omega arith) (right (same_name name first) e)
  where
    right : (a : Bool) → (a || is_among name hosts) ≡ false → is_among name hosts ≡ false
    right true e = absurd (cc)
    right false e = e

pub none_is : (hosts : List Name) (name : Name) (host : ℕ) (numbers : List ℕ) → host < length hosts → numbers ≡ []
    → is_among name hosts ≡ false → has_number host numbers ≡ same_name (host_at hosts host) name
none_is hosts name host numbers within is none =
    ap (has_number host) is ∙ sym (absent name hosts host within none) ∙ same_name-sym name (host_at hosts host)

pub rows_more : {X : Type 0} (view : X → Host) (rows : List X) (places : List ℕ) (i : ℕ) (row : X) → i < length places → get_or places i 0 < length rows
    → row ≡ get_or rows (get_or places i 0) row
    → variables_at (map view rows) (take (i + 1) places) ≡ variables_at (map view rows) (take i places) ++ (view row).variables
rows_more view rows places i row within inside is =
    let hosts : List Host = map view rows in
    let place : ℕ = get_or places i 0 in
    let here : listed_at hosts place ≡ view row = get_or-map view rows place row (record { name = []; variables = [] }) inside ∙ sym (ap view is) in
    ap (variables_at hosts) (take_more places i 0 within)
    ∙ flat_map-append (λ place. (listed_at hosts place).variables) (take i places) (place ∷ [])
    ∙ ap (λ (l : List Variable). variables_at hosts (take i places) ++ l) (append-nil (listed_at hosts place).variables ∙ ap (λ (h : Host). h.variables) here)
