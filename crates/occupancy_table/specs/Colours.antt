-- The colours of a table, and what is left of a text once they are taken away.
use Rattle.std.specs.Prelude.{ℕ, ◌==◌, Bool, true, false, not, nat_le, if◌then◌else◌, List, [], ◌∷◌, ◌++◌, codes}
use Rattle.std.specs.Char.{is_ascii_alphabetic}
use Rattle.occupancy_table.specs.declared.color_mode.ColorMode.{ColorMode}
use Rattle.occupancy_table.specs.declared.color_mode.ColorMode.TheVariants.{Plain, Coloured}

-- no more of a group's hosts may go down
abbrev pub is_full : ℕ → ℕ → Bool
is_full down limit = nat_le limit down

-- where colours are wanted, the cells of full groups are coloured, and nothing else
abbrev pub is_coloured : ColorMode → ℕ → ℕ → Bool
is_coloured Plain down limit = false
is_coloured Coloured down limit = is_full down limit

-- from here on a terminal shows bold red: ESC `[1;31m`
abbrev pub red_begins : List ℕ
red_begins = 27 ∷ codes "[1;31m"

-- and from here on no longer: ESC `[0m`
abbrev pub red_ends : List ℕ
red_ends = 27 ∷ codes "[0m"

-- a text in bold red, or as it is
abbrev pub coloured : Bool → List ℕ → List ℕ
coloured true text = red_begins ++ (text ++ red_ends)
coloured false text = text

-- the bytes of a text but for those of its sequences, of which each goes from an ESC to the first letter behind it; one may have begun before
abbrev pub shown_from : Bool → List ℕ → List ℕ
shown_from within [] = []
shown_from true (byte ∷ text) = shown_from (not (is_ascii_alphabetic byte)) text
shown_from false (byte ∷ text) = if byte == 27 then shown_from true text else byte ∷ shown_from false text

-- what a terminal shows of a text: what is left without its sequences
abbrev pub shown : List ℕ → List ℕ
shown text = shown_from false text
