-- A host's limited groups, and limited groups that cross.
use Rattle.std.specs.Prelude.{◌≡◌, ℕ, ◌<◌, ◌≤◌, ◌⊎◌, Bool, true, false, nat_lt, is_some, Option, None, List, slice_index_or}
use Rattle.fleet_index.specs.NumberLists.{has_number}

abbrev pub is_limited : List (Option ℕ) → ℕ → Bool
is_limited limits group = is_some (slice_index_or limits group None)

-- the second group comes after the last one at or below the first
abbrev pub ends_before : List ℕ → ℕ → ℕ → Bool
ends_before subtree_ends first second = nat_lt (slice_index_or subtree_ends first 0) second

-- no two groups of the chain cross
abbrev pub IsNestedChain : List ℕ → List ℕ → Type 0
IsNestedChain subtree_ends chain =
    (first second : ℕ) → has_number first chain ≡ true → has_number second chain ≡ true → ends_before subtree_ends first second ≡ false

-- the two cross, and no crossing pair comes before them
pub record IsLeastCrossingPair (subtree_ends chain : List ℕ) (first second : ℕ) : Type 0 where
  pub first_in : has_number first chain ≡ true
  pub second_in : has_number second chain ≡ true
  pub crosses : ends_before subtree_ends first second ≡ true
  pub least : (other later : ℕ) → has_number other chain ≡ true → has_number later chain ≡ true → ends_before subtree_ends other later ≡ true
      → (first < other) ⊎ ((first ≡ other) × (second ≤ later))
