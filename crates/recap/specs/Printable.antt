-- Bytes as one line shows them.
use Rattle.std.specs.Prelude.{ℕ, ◌&&◌, nat_le, if◌then◌else◌, List, map}

-- a byte that is no printable ASCII is a question mark
abbrev pub printable : ℕ → ℕ
printable byte = if nat_le 32 byte && nat_le byte 126 then byte else 63

-- a text on one line
abbrev pub printed : List ℕ → List ℕ
printed bytes = map printable bytes
