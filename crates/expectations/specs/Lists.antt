-- Lists of expectations: `NAME=NUMBER` and `NAME<=NUMBER`, parted as the names of a pattern of hosts are.
use Rattle.std.specs.Prelude.{ℕ, ◌-◌, Bool, ◌==◌, Option, Some, None, option_and_then, option_map, List, [], ◌∷◌, length, map, slice_index, take, if◌then◌else◌}
use Rattle.std.specs.List.{after_first, before_first}
use Rattle.text_syntax.specs.Numerals.{number_in_digits}
use Rattle.text_syntax.specs.Patterns.{parts_of}
use Rattle.group_tree.specs.Names.{Name, is_name}
use Rattle.expectations.specs.declared.expectation.Relation.{Relation}
use Rattle.expectations.specs.declared.expectation.Relation.TheVariants.{Equal, AtMost}

-- the number that a name stands for is to be this one, or at most this one
pub record Expectation : Type 0 where
  pub name : Name
  pub relation : Relation
  pub number : ℕ

abbrev pub is_equals : ℕ → Bool
is_equals byte = byte == 61

-- `<` stands at the end
abbrev pub ends_below : List ℕ → Bool
ends_below front = slice_index front (length front - 1) == 60

-- the name has the alphabet of groups and hosts
abbrev pub with_name : Name → Relation → ℕ → Option Expectation
with_name name relation number = if is_name name then Some (record { name = name; relation = relation; number = number }) else None

-- what stands before the `=`, and the number behind it
abbrev pub with_front : List ℕ → ℕ → Option Expectation
with_front front number =
    if ends_below front then with_name (take (length front - 1) front) AtMost number else with_name front Equal number

-- what one part of a list says: behind its first `=` stands a number from 0 to 65,535, in one to five digits
abbrev pub expectation_in : List ℕ → Option Expectation
expectation_in part =
    option_and_then (with_front (before_first is_equals part)) (number_in_digits 5 65535 (after_first is_equals part))

-- what all of them say, if each says something
abbrev pub all_said : List (Option Expectation) → Option (List Expectation)
all_said [] = Some []
all_said (None ∷ rest) = None
all_said (Some expectation ∷ rest) = option_map (λ expectations. expectation ∷ expectations) (all_said rest)

abbrev pub some_said : List Expectation → Option (List Expectation)
some_said [] = None
some_said (expectation ∷ expectations) = Some (expectation ∷ expectations)

-- the expectations that a text lists: its parts are those of a pattern of hosts, and there is one at least
abbrev pub expectations_in : List ℕ → Option (List Expectation)
expectations_in text = option_and_then some_said (all_said (map expectation_in (parts_of text)))
