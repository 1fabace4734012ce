-- The words of a line's body.
use Rattle.std.specs.Prelude.{ℕ, Bool, ◌==◌, List}
use Rattle.std.specs.List.{slice_split}

abbrev pub is_space : ℕ → Bool
is_space byte = byte == 32

-- the pieces between spaces
abbrev pub words_of : List ℕ → List (List ℕ)
words_of body = slice_split is_space body
