-- An option with a value, at the beginning of the words.
use Rattle.std.specs.Prelude.{List, [], ◌∷◌, if◌then◌else◌, Option, Some, None, option_map, take, drop, length}
use Rattle.std.specs.Str.{bytes_eq}
use Rattle.command_line.specs.Operands.{Word}

-- what the word has behind this beginning
abbrev pub behind : Word → Word → Option Word
behind start word = if bytes_eq (take (length start) word) start then Some (drop (length start) word) else None

abbrev pub first_and_rest : List Word → Option (Word × List Word)
first_and_rest [] = None
first_and_rest (word ∷ words) = Some (word, words)

-- the option of this name at the beginning of the words: its value, which is a word of its own or stands behind the name with its `=`,
-- and the words behind it
abbrev pub leading_value : Word → Word → List Word → Option (Word × List Word)
leading_value name attached [] = None
leading_value name attached (word ∷ words) =
    if bytes_eq word name then first_and_rest words else option_map (λ value. (value, words)) (behind attached word)
