-- The operands of a command: its files.
use Rattle.std.specs.Prelude.{ℕ, Bool, true, false, ◌==◌, if◌then◌else◌, List, [], ◌∷◌, Option, Some, None, option_map, codes}
use Rattle.std.specs.Str.{bytes_eq}

abbrev pub Word : Type 0
Word = List ℕ

-- the word that ends options
abbrev pub dashes : Word
dashes = codes "--"

-- a word that is no option: it begins with no dash, or is a dash alone
abbrev pub is_operand : Word → Bool
is_operand [] = true
is_operand (first ∷ []) = true
is_operand (first ∷ second ∷ rest) = if first == 45 then false else true

-- the only operand of the words; behind the word that ends options any word is one
abbrev pub lone_operand : List Word → Option Word
lone_operand (word ∷ []) = if is_operand word then Some word else None
lone_operand (first ∷ second ∷ []) =
    if bytes_eq first dashes then Some second else (if bytes_eq second dashes then (if is_operand first then Some first else None) else None)
lone_operand words = None

abbrev pub only_word : List Word → Option Word
only_word (word ∷ []) = Some word
only_word words = None

abbrev pub two_words : List Word → Option (Word × Word)
two_words (first ∷ second ∷ []) = Some (first, second)
two_words words = None

-- a first operand with the only operand of the other words
abbrev pub operand_and : Word → List Word → Option (Word × Word)
operand_and first rest = option_map (λ second. (first, second)) (lone_operand rest)

-- the two operands of the words, where there are just two; the word that ends options may stand before either, or behind both
abbrev pub two_operands : List Word → Option (Word × Word)
two_operands [] = None
two_operands (first ∷ rest) =
    if bytes_eq first dashes then two_words rest else (if is_operand first then operand_and first rest else None)

abbrev pub three_words : List Word → Option (Word × Word × Word)
three_words (first ∷ second ∷ third ∷ []) = Some (first, second, third)
three_words words = None

-- a first operand with the two operands of the other words
abbrev pub operand_and_two : Word → List Word → Option (Word × Word × Word)
operand_and_two first rest = option_map (λ others. (first, others.0, others.1)) (two_operands rest)

-- the three operands of the words, where there are just three
abbrev pub three_operands : List Word → Option (Word × Word × Word)
three_operands [] = None
three_operands (first ∷ rest) =
    if bytes_eq first dashes then three_words rest else (if is_operand first then operand_and_two first rest else None)

-- no words, or the one that ends options
abbrev pub is_end : List Word → Bool
is_end [] = true
is_end (word ∷ []) = bytes_eq word dashes
is_end words = false
