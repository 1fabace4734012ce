-- The hosts and the groups of names.
use Rattle.std.proofs.Common.{◌≡◌, ℕ, ◌<◌, ◌≤◌, Bool, true, false, ◌&&◌, not, cond, nat_eq, Option, None, Some, List, [], ◌∷◌, length, get_or, sym, refl, ap, ◌∙◌, subst, arith}
use Rattle.std.specs.Prelude.{MatchOption, option_and_then, if◌then◌else◌}
use Rattle.text_syntax.specs.Numerals.{number_in_digits}
use Rattle.rehearse.specs.Commands.{number_in, some_number}
use Rattle.std.specs.List.{find, list_any, position, position_or_len}
use Rattle.std.specs.Str.{IsUtf8, is_utf8}
use Rattle.std.proofs.lemmas.Bool.Decides.{nat_tests}
use Rattle.std.proofs.lemmas.List.Folds.{list_any_at}
use Rattle.std.proofs.lemmas.List.Sums.{position_or_len_is}
use Rattle.std.proofs.lemmas.Str.{IsUtf8-from_is_utf8, is_utf8-from_IsUtf8}
use Rattle.group_tree.specs.Names.{Name, is_among, same_name}
use Rattle.group_tree.specs.declared.ids.HostId.{HostId}
use Rattle.domains.specs.FleetViews.{FleetView}
use Rattle.domains.specs.Numbered.{host_at}
use Rattle.rehearse.specs.Names.{first_nobody, group_named, host_named, hosts_named, is_nobody}

-- what `Fleet::host` says of the host that it finds
abbrev IsHostOf : FleetView → Name → HostId → Type 0
IsHostOf fleet name host =
    (host.index < length fleet.hosts) × (host_at fleet.hosts host.index ≡ name)
    × ((other : ℕ) → other < length fleet.hosts → same_name name (host_at fleet.hosts other) ≡ nat_eq host.index other)

some_passes : (test : Name → Bool) (names : List Name) (place : ℕ) → place < length names → test (get_or names place []) ≡ true → list_any test names ≡ true
some_passes test names place within passes = list_any_at test names place [] within passes

pub is_host : (fleet : FleetView) (name : Name) (host : HostId) → IsUtf8 name → IsHostOf fleet name host → (is_nobody fleet name ≡ false) × (host ≡ host_named fleet name)
is_host fleet name host utf8 is =
    let same : same_name name (host_at fleet.hosts host.index) ≡ true = is.2 host.index is.0 ∙ grind (arith, nat_tests) in
    let among : is_among name fleet.hosts ≡ true = some_passes (same_name name) fleet.hosts host.index is.0 same in
    let nobody : is_nobody fleet name ≡ false = ap (λ b. not (b && is_among name fleet.hosts)) (is_utf8-from_IsUtf8 name utf8) ∙ ap (λ b. not b) among in
    let place : position_or_len (same_name name) fleet.hosts ≡ host.index =
    position_or_len_is (same_name name) fleet.hosts host.index [] (omega (arith, is.0)) (λ k l. is.2 k (omega (arith, l, is.0)) ∙ grind (arith, nat_tests)) (λ l. same) in
    (nobody, ap (λ (n : ℕ). let h : HostId = record { index = n } in h) (sym place))

pub no_host : (fleet : FleetView) (name : Name) → is_among name fleet.hosts ≡ false → is_nobody fleet name ≡ true
no_host fleet name other = ap (λ b. not (is_utf8 name && b)) other ∙ by_case (is_utf8 name)
  where
    by_case : (b : Bool) → not (b && false) ≡ true
    by_case true = refl
    by_case false = refl

pub no_text : (fleet : FleetView) (name : Name) → (IsUtf8 name → ⊥) → is_nobody fleet name ≡ true
no_text fleet name not_utf8 = by_case (is_utf8 name) refl
  where
    by_case : (b : Bool) → is_utf8 name ≡ b → is_nobody fleet name ≡ true
    by_case true e = absurd (not_utf8 (IsUtf8-from_is_utf8 name e))
    by_case false e = ap (λ b. not (b && is_among name fleet.hosts)) e

-- one name more
pub here_nobody : (fleet : FleetView) (name : Name) (names : List Name) → is_nobody fleet name ≡ true → first_nobody fleet (name ∷ names) ≡ Some name
here_nobody fleet name names e = ap (λ b. cond b (Some name) (first_nobody fleet names)) e

pub later_nobody : (fleet : FleetView) (name : Name) (names : List Name) → is_nobody fleet name ≡ false → first_nobody fleet (name ∷ names) ≡ first_nobody fleet names
later_nobody fleet name names e = ap (λ b. cond b (Some name) (first_nobody fleet names)) e

-- what `Fleet::host` finds for a name that is text
pub found_host : (fleet : FleetView) (name text : Name) (found : Option HostId) → text ≡ name → IsUtf8 name
    → MatchOption found (is_among text fleet.hosts ≡ false) (λ host. (host.index < length fleet.hosts) × (host_at fleet.hosts host.index ≡ text)
    × ((other : ℕ) → other < length fleet.hosts → same_name text (host_at fleet.hosts other) ≡ nat_eq host.index other))
    → MatchOption found (is_nobody fleet name ≡ true) (λ host. (is_nobody fleet name ≡ false) × (host ≡ host_named fleet name))
found_host fleet name text None same utf8 found = no_host fleet name (ap (λ n. is_among n fleet.hosts) (sym same) ∙ found)
found_host fleet name text (Some host) same utf8 found =
    is_host fleet name host utf8 (subst (λ (n : Name). IsHostOf fleet n host) same found)

-- what `Fleet::group` finds for a name that is text
pub found_group : (fleet : FleetView) (name text : Name) (found : Option ℕ) → text ≡ name → IsUtf8 name → found ≡ position (same_name text) fleet.groups → found ≡ group_named fleet name
found_group fleet name text found same utf8 is =
    is ∙ ap (λ n. position (same_name n) fleet.groups) same
    ∙ sym (ap (λ b. if b then position (same_name name) fleet.groups else None) (is_utf8-from_IsUtf8 name utf8))

pub no_group : (fleet : FleetView) (name : Name) → (IsUtf8 name → ⊥) → None ≡ group_named fleet name
no_group fleet name not_utf8 = by_case (is_utf8 name) refl
  where
    by_case : (b : Bool) → is_utf8 name ≡ b → None ≡ group_named fleet name
    by_case true e = absurd (not_utf8 (IsUtf8-from_is_utf8 name e))
    by_case false e = sym (ap (λ b. if b then position (same_name name) fleet.groups else None) e)

-- the number of a word that is text
pub found_number : (word text : Name) (found : Option ℕ) → text ≡ word → IsUtf8 word → found ≡ number_in_digits 5 65535 text
    → (option_and_then some_number found ≡ number_in word)
found_number word text found same utf8 is =
    ap (option_and_then some_number) (is ∙ ap (number_in_digits 5 65535) same)
    ∙ sym (ap (λ b. if b then option_and_then some_number (number_in_digits 5 65535 word) else None) (is_utf8-from_IsUtf8 word utf8))

pub no_number : (word : Name) → (IsUtf8 word → ⊥) → None ≡ number_in word
no_number word not_utf8 = by_case (is_utf8 word) refl
  where
    by_case : (b : Bool) → is_utf8 word ≡ b → None ≡ number_in word
    by_case true e = absurd (not_utf8 (IsUtf8-from_is_utf8 word e))
    by_case false e = sym (ap (λ b. if b then option_and_then some_number (number_in_digits 5 65535 word) else None) e)
