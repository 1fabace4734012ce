-- What the steps of reading and writing give.
use Rattle.std.specs.Prelude.{◌≡◌, ℕ, Option, None, Some, List, ◌++◌, drop, length, take, if◌then◌else◌}
use Rattle.std.specs.List.{after_first}
use Rattle.std.specs.Str.{bytes_eq}
use Rattle.journal.specs.Lines.{AreLines, line_of}
use Rattle.journal.specs.Words.{is_space}

-- what stands behind the first space; nothing where there is none
abbrev pub behind_space : List ℕ → List ℕ
behind_space bytes = after_first is_space bytes

-- the line says of no body that it is whole
abbrev pub IsNoLine : List ℕ → Type 0
IsNoLine line = (body : List ℕ) → line ≡ line_of body → ⊥

-- the bytes don't begin with these
abbrev pub BeginsOtherwise : List ℕ → List ℕ → Type 0
BeginsOtherwise bytes front = (rest : List ℕ) → bytes ≡ front ++ rest → ⊥

-- what stands behind these bytes, where the others begin with them
abbrev pub stripped : List ℕ → List ℕ → Option (List ℕ)
stripped front bytes = if bytes_eq (take (length front) bytes) front then Some (drop (length front) bytes) else None

-- the text is lines, and what is left behind them
pub record IsBehindLines (text left : List ℕ) : Type 0 where
  pub lines : List ℕ
  pub parts : text ≡ lines ++ left
  pub are : AreLines lines
