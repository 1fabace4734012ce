-- Lines of commands as bytes.
use Rattle.std.specs.Prelude.{◌≡◌, ℕ, ◌+◌, ◌-◌, ◌<◌, ◌≤◌, ◌==◌, Bool, false, List, [], ◌∷◌, ◌++◌, codes, drop, flat_map, length, take, if◌then◌else◌}
use Rattle.std.specs.List.{list_any}
use Rattle.std.specs.Str.{bytes_eq}

-- the most bytes of a line, without its line feed
abbrev pub max_line : ℕ
max_line = 65536

abbrev pub is_feed : ℕ → Bool
is_feed byte = byte == 10

-- no line feed stands among the bytes
abbrev pub HasNoFeed : List ℕ → Type 0
HasNoFeed bytes = list_any is_feed bytes ≡ false

-- the bytes are these, the first line feed among them, and those
pub record IsCut (bytes front behind : List ℕ) : Type 0 where
  pub feedless : HasNoFeed front
  pub parts : bytes ≡ front ++ 10 ∷ behind

-- a line, without its line feed
pub record IsLine (line : List ℕ) : Type 0 where
  pub feedless : HasNoFeed line
  pub within : length line ≤ max_line

-- more than a line without a line feed
pub record IsLong (bytes : List ℕ) : Type 0 where
  pub feedless : HasNoFeed (take (max_line + 1) bytes)
  pub long : max_line < length bytes

-- lines, each with its line feed
abbrev pub joined : List (List ℕ) → List ℕ
joined lines = flat_map (λ line. line ++ 10 ∷ []) lines

-- the line without a carriage return at its end
abbrev pub without_return : List ℕ → List ℕ
without_return line = if bytes_eq (drop (length line - 1) line) (codes "\r") then take (length line - 1) line else line

-- the most bytes of a single read
abbrev pub max_read : ℕ
max_read = 8192

-- what stands behind the last line feed, as a line of its own; no bytes are no line
abbrev pub last_line : List ℕ → List (List ℕ)
last_line [] = []
last_line (byte ∷ bytes) = (byte ∷ bytes) ∷ []
