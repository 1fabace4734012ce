-- The name that was probably meant where one is read that no waiting host has.
use Rattle.std.specs.Prelude.{ℕ, Bool, not, ◌&&◌, nat_le, Option, None, Some, List, [], ◌∷◌, ◌++◌, String, codes, drop, filter, flat_map, length, map, string_bytes, take}
use Rattle.group_tree.specs.Names.{Name, same_name}
use Rattle.name_suggestions.specs.Nearness.{nearest_of}
use Rattle.play_model.specs.declared.play.Play.{Play}
use Rattle.play_model.specs.declared.step.Step.{Step}
use Rattle.lint_rules.specs.Notes.{Note, unknown_name}

abbrev pub register_names : {Y : Type 0} → Option (String Y) → List Name
register_names None = []
register_names (Some register) = string_bytes register ∷ []

abbrev pub step_registers : List Step → List Name
step_registers = flat_map (λ (step : Step). register_names step.register)

-- the names under which the steps of plays register results, in their order
abbrev pub play_registers : List Play → List Name
play_registers = flat_map (λ (play : Play). step_registers play.steps.items)

-- with so many names at most a name is compared
abbrev pub most_compared : ℕ
most_compared = 1000

-- the host's own name, those that the inventory gives, and behind them those that steps register
abbrev pub compared_names : List Name → List Play → List Name
compared_names given plays = take most_compared (codes "inventory_hostname" ∷ (given ++ play_registers plays))

-- another name, which isn't too long to be compared
abbrev pub is_compared : Name → Name → Bool
is_compared name other = not (same_name other name) && nat_le (length other) 64

-- The same note, with the nearest of these names where no waiting host has the one that is read. It may be among them itself: other hosts have it, or it comes too late.
abbrev pub with_near : List Name → Note → Note
with_near names (unknown_name at name near) = unknown_name at name (nearest_of name (filter (is_compared name) names))
with_near names note = note

-- so many notes at most are told with one
abbrev pub most_told : ℕ
most_told = 100

-- that of the first ones among some notes
abbrev pub all_with_near : List Name → List Note → List Note
all_with_near names notes = map (with_near names) (take most_told notes) ++ drop most_told notes
