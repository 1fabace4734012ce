-- What is kept of the names that steps register.
use Rattle.std.specs.Prelude.{◌≡◌, ℕ, ◌+◌, Bool, false, nat_lt, Option, Some, None, List, [], ◌∷◌, map}
use Rattle.std.specs.Borrow.{Bor}
use Rattle.std.specs.HashMap.{HashMap, get_by}
use Rattle.group_tree.specs.Names.{Name, same_name}
use Rattle.text_syntax.specs.Words.{all_fields}
use Rattle.command_preview.specs.Previews.{field_tail, hole_text}
use Rattle.command_preview.specs.declared.hole.Hole.{Hole}

abbrev pub hole_of : {S : Type 0} → HashMap (Bor (List ℕ)) Hole S → Name → Option Hole
hole_of names name = get_by (λ key. same_name name key.now) names

-- one of the first so many steps of the file registers the name
abbrev pub is_before : ℕ → Option Hole → Bool
is_before count None = false
is_before count (Some hole) = nat_lt hole.since count

abbrev pub is_kept_before : {S : Type 0} → HashMap (Bor (List ℕ)) Hole S → ℕ → Name → Bool
is_kept_before names count name = is_before count (hole_of names name)

-- the same at each place of a play behind so many steps
abbrev pub unsure_from : {S : Type 0} → HashMap (Bor (List ℕ)) Hole S → ℕ → ℕ → Name → Bool
unsure_from names before place = is_kept_before names (before + place)

-- what may stand behind the name in a hole: nothing, or a field
abbrev pub tails : List (List ℕ)
tails = [] ∷ map field_tail all_fields

abbrev pub hole_texts : Name → List (List ℕ)
hole_texts name = map (hole_text name) tails

-- under each name stand the texts of its holes
abbrev pub AreHoles : {S : Type 0} → HashMap (Bor (List ℕ)) Hole S → Type 0
AreHoles names = (name : Name) (hole : Hole) → hole_of names name ≡ Some hole → hole.texts ≡ hole_texts name
