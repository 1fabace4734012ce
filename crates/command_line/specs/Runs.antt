-- What the words of a run say: two files, and an option that says how many hosts are worked on at once.
use Rattle.std.specs.Prelude.{ℕ, List, [], ◌∷◌, if◌then◌else◌, Option, Some, None, option_map, option_and_then, unwrap_or, codes}
use Rattle.std.specs.Option.{option_map_or}
use Rattle.std.specs.Str.{bytes_eq}
use Rattle.command_line.specs.Forks.{forks_in, default_text}
use Rattle.command_line.specs.Operands.{Word, dashes, is_end, lone_operand, two_operands}
use Rattle.command_line.specs.Options.{leading_value}

-- the option at the beginning of the words: its value, and the words behind it
abbrev pub leading_option : List Word → Option (Word × List Word)
leading_option words = leading_value (codes "--forks") (codes "--forks=") words

-- the words without the first such option, and its value; behind the word that ends options there is none
abbrev pub without_option : List Word → List Word × Option Word
without_option [] = ([], None)
without_option (word ∷ words) = option_map_or (λ found. (found.1, Some found.0)) (leading_option (word ∷ words))
    (if bytes_eq word dashes then (word ∷ words, None) else (word ∷ (without_option words).0, (without_option words).1))

-- two operands, with the value of the option
abbrev pub two_and_value : List Word × Option Word → Option (Word × Word × Option Word)
two_and_value left = option_map (λ files. (files.0, files.1, left.1)) (two_operands left.0)

-- one operand, with the value of the option
abbrev pub one_and_value : List Word × Option Word → Option (Word × Option Word)
one_and_value left = option_map (λ word. (word, left.1)) (lone_operand left.0)

-- the value of the option, where no operand is left
abbrev pub no_operand : List Word × Option Word → Option (Option Word)
no_operand left = if is_end left.0 then Some left.1 else None

-- the files that are left, with the number of forks that the option's value names
abbrev pub run_of : List Word × Option Word → Option (Word × Word × ℕ)
run_of left = option_and_then (λ found. option_map (λ forks. (found.0, found.1, forks)) (forks_in (unwrap_or found.2 default_text)))
    (two_and_value left)
