-- What is kept of the names that the steps of a play register.
use Rattle.std.specs.Prelude.{◌≡◌, ℕ, Bool, false, nat_lt, Option, Some, None, List, take}
use Rattle.std.specs.Borrow.{Bor}
use Rattle.std.specs.HashMap.{HashMap, get_by}
use Rattle.group_tree.specs.Names.{Name, same_name}
use Rattle.play_model.specs.declared.step.Step.{Step}
use Rattle.undefined_names.specs.EarlierSteps.{is_registered}

abbrev pub place_of : {S : Type 0} → HashMap (Bor (List ℕ)) ℕ S → Name → Option ℕ
place_of names name = get_by (λ key. same_name name key.now) names

-- one of the first so many steps registers the name
abbrev pub is_before : ℕ → Option ℕ → Bool
is_before count None = false
is_before count (Some place) = nat_lt place count

abbrev pub is_kept_before : {S : Type 0} → HashMap (Bor (List ℕ)) ℕ S → ℕ → Name → Bool
is_kept_before names count name = is_before count (place_of names name)

abbrev pub ArePlacesOf : {S : Type 0} → HashMap (Bor (List ℕ)) ℕ S → List Step → Type 0
ArePlacesOf names steps = (count : ℕ) (name : Name) → is_kept_before names count name ≡ is_registered (take count steps) name
