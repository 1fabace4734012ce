-- What is told of a fault, or of a kind of notes.
use Rattle.std.specs.Prelude.{◌≡◌, ℕ, List, ◌++◌, codes, length, take}

-- an entry of a word begins with it, and a blank stands behind
abbrev pub IsEntryOf : List ℕ → List ℕ → Type 0
IsEntryOf word entry = take (length (word ++ codes " ")) entry ≡ word ++ codes " "
