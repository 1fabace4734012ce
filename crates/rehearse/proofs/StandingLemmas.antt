-- The batch in which a host stands.
use Rattle.std.proofs.Common.{◌≡◌, ℕ, ◌<◌, true, false, ◌||◌, cond, nat_eq, nat_lt, None, Some, List, [], ◌∷◌, length, refl, ap, ◌∙◌, arith}
use Rattle.std.specs.List.{list_any, position, position_or_len}
use Rattle.std.proofs.lemmas.Bool.{lt-ltb}
use Rattle.std.proofs.lemmas.Bool.Decides.{nat_tests}
use Rattle.std.proofs.lemmas.List.Sums.{position_or_len_is}
use Rattle.group_tree.specs.declared.ids.HostId.{HostId}
use Rattle.fleet_index.specs.NumberLists.{has_number, list_at}
use Rattle.domains.specs.Ids.{host_numbers}

pub stands_in : (host : ℕ) (hosts : List HostId) → list_any (λ (other : HostId). nat_eq host other.index) hosts ≡ has_number host (host_numbers hosts)
stands_in host [] = refl
stands_in host (other ∷ hosts) = ap (λ b. nat_eq host other.index || b) (stands_in host hosts)

-- in none of the batches before this place the host stands
abbrev pub IsInNoneBefore : ℕ → List (List ℕ) → ℕ → Type 0
IsInNoneBefore host batches place = (earlier : ℕ) → earlier < place → has_number host (list_at batches earlier) ≡ false

pub first_there : (host place : ℕ) (batches : List (List ℕ)) → place < length batches → IsInNoneBefore host batches place → has_number host (list_at batches place) ≡ true
    → position (has_number host) batches ≡ Some place
first_there host place batches within before here =
    let at : position_or_len (has_number host) batches ≡ place = position_or_len_is (has_number host) batches place [] (omega (arith, within)) before (λ l. here) in
    ap (λ n. cond (nat_lt n (length batches)) (Some n) None) at ∙ ap (λ b. cond b (Some place) None) (lt-ltb place (length batches) within)

pub in_none : (host : ℕ) (batches : List (List ℕ)) → IsInNoneBefore host batches (length batches) → position (has_number host) batches ≡ None
in_none host batches before =
    let count : ℕ = length batches in
    let at : position_or_len (has_number host) batches ≡ count = position_or_len_is (has_number host) batches count [] (omega arith) before (λ l. absurd (omega (arith, l))) in
    let past : nat_lt count count ≡ false = grind (arith, nat_tests) in
    ap (λ n. cond (nat_lt n count) (Some n) None) at ∙ ap (λ b. cond b (Some count) None) past
