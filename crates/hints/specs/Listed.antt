-- What docs/FAULTS.md and docs/NOTES.md have entries of. `make pages` makes this file from those pages.
use Rattle.std.specs.Prelude.{ℕ, Bool, ◌||◌, List, [], ◌∷◌, codes}
use Rattle.std.specs.List.{list_any}
use Rattle.std.specs.Str.{bytes_eq}

-- faults of inventories and fleets
unfoldable pub is_of_inventories : List ℕ → Bool
is_of_inventories word = list_any (bytes_eq word) (
    codes "101" ∷ codes "102" ∷ codes "103" ∷ codes "104" ∷ codes "201" ∷ codes "202" ∷ codes "203" ∷ codes "204" ∷ codes "205" ∷
    codes "301" ∷ codes "302" ∷ codes "303" ∷ codes "304" ∷ [])

-- faults of playbooks
unfoldable pub is_of_playbooks : List ℕ → Bool
is_of_playbooks word = list_any (bytes_eq word) (
    codes "501" ∷ codes "502" ∷ codes "503" ∷ codes "504" ∷ codes "602" ∷ codes "701" ∷ codes "702" ∷ codes "703" ∷ codes "704" ∷
    codes "705" ∷ codes "706" ∷ codes "707" ∷ codes "708" ∷ codes "709" ∷ [])

-- faults of commands
unfoldable pub is_of_commands : List ℕ → Bool
is_of_commands word = list_any (bytes_eq word) (
    codes "822" ∷ codes "901" ∷ codes "902" ∷ codes "903" ∷ codes "904" ∷ codes "906" ∷ codes "907" ∷ codes "908" ∷ codes "909" ∷
    codes "910" ∷ codes "911" ∷ codes "912" ∷ codes "913" ∷ codes "914" ∷ codes "915" ∷ codes "916" ∷ codes "917" ∷ codes "918" ∷
    codes "919" ∷ [])

-- kinds of notes
unfoldable pub is_of_kinds : List ℕ → Bool
is_of_kinds word = list_any (bytes_eq word) (
    codes "repeated-key" ∷ codes "near-key" ∷ codes "group-down" ∷ codes "zero-limit" ∷ codes "empty-limit" ∷ codes "loose-limit" ∷
    codes "unfilled-placeholder" ∷ codes "no-hosts" ∷ codes "unlimited-hosts" ∷ codes "local-command" ∷ codes "undefined-name" ∷
    codes "unknown-group" ∷ codes "constant-test" ∷ codes "idle-step" ∷ codes "idle-handler" ∷ codes "changed-guard" ∷ codes "shell-word" ∷
    codes "dash-name" ∷ codes "down-hosts" ∷ codes "one-failure" ∷ [])

-- the word is one of those that have an entry
abbrev pub has_entry : List ℕ → Bool
has_entry word = is_of_inventories word || (is_of_playbooks word || (is_of_commands word || is_of_kinds word))
