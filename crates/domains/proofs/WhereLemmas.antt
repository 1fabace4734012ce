-- Numbers and names that pass a test.
use Rattle.std.proofs.Common.{◌≡◌, ℕ, suc, ◌+◌, ◌<◌, Bool, true, false, ◌&&◌, cond, List, [], ◌∷◌, length, filter, sym, ap, ◌∙◌, refl, arith}
use Rattle.std.specs.List.{range_with_len}
use Rattle.std.proofs.lemmas.Bool.{lt-ltb}
use Rattle.std.proofs.Math.Nat.{add-zero}
use Rattle.group_tree.specs.Names.{Name}
use Rattle.fleet_index.specs.NumberLists.{has_number, numbers_where, IsRising}
use Rattle.fleet_index.proofs.RisingLemmas.{Ascends-numbers_where, rising_is, has_number-numbers_where}
use Rattle.domains.specs.Numbered.{host_at}

-- tests that agree below the end give the same numbers
pub numbers_where-same : (p q : ℕ → Bool) (n : ℕ) → ((k : ℕ) → k < n → p k ≡ q k) → numbers_where p n ≡ numbers_where q n
numbers_where-same p q n agree =
    rising_is q n (numbers_where p n) (Ascends-numbers_where p n) (λ k l. has_number-numbers_where p n k ∙ ap (λ b. b && p k) (lt-ltb k n l) ∙ agree k l)

pub rising-numbers_where : (p : ℕ → Bool) (n : ℕ) → IsRising n (numbers_where p n)
rising-numbers_where p n =
    rising_is (λ k. has_number k (numbers_where p n)) n (numbers_where p n) (Ascends-numbers_where p n) (λ k l. refl)

pub filter-filter : (p q : ℕ → Bool) (xs : List ℕ) → filter p (filter q xs) ≡ filter (λ x. q x && p x) xs
filter-filter p q [] = refl
filter-filter p q (x ∷ xs) = by_case (q x) (p x) (filter q xs) (filter (λ x. q x && p x) xs) refl (filter-filter p q xs)
  where
    by_case : (a b : Bool) (inner both : List ℕ) → p x ≡ b → filter p inner ≡ both
        → filter p (cond a (x ∷ inner) inner) ≡ cond (a && p x) (x ∷ both) both
    by_case true true inner both e rest =
        ap (λ c. cond c (x ∷ filter p inner) (filter p inner)) e
        ∙ ap (λ (l : List ℕ). x ∷ l) rest
        ∙ sym (ap (λ c. cond c (x ∷ both) both) e)
    by_case true false inner both e rest =
        ap (λ c. cond c (x ∷ filter p inner) (filter p inner)) e ∙ rest ∙ sym (ap (λ c. cond c (x ∷ both) both) e)
    by_case false b inner both e rest = rest

pub filtered_names : (t : ℕ → Bool) (u : Name → Bool) (names : List Name) (from : ℕ)
    → ((k : ℕ) → k < length names → t (from + k) ≡ u (host_at names k)) → length (filter t (range_with_len from (length names))) ≡ length (filter u names)
filtered_names t u [] from at = refl
filtered_names t u (name ∷ names) from at =
    by_case (u name) (filter t (range_with_len (from + 1) (length names))) here (filtered_names t u names (from + 1) (λ k l. shift k l))
  where
    more : (n k : ℕ) → (n + 1) + k ≡ n + suc k
    more n k = omega arith

    here : t from ≡ u name
    here = ap t (sym (add-zero from)) ∙ at 0 (omega arith)

    shift : (k : ℕ) → k < length names → t ((from + 1) + k) ≡ u (host_at names k)
    shift k l = ap t (more from k) ∙ at (suc k) (omega arith)

    by_case : (b : Bool) (tail : List ℕ) → t from ≡ b → length tail ≡ length (filter u names)
        → length (cond (t from) (from ∷ tail) tail) ≡ length (cond b (name ∷ filter u names) (filter u names))
    by_case true tail e rest = ap (λ b. length (cond b (from ∷ tail) tail)) e ∙ ap suc rest
    by_case false tail e rest = ap (λ b. length (cond b (from ∷ tail) tail)) e ∙ rest
