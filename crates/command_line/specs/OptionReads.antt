-- The options among the words of a command, and the words without them.
use Rattle.std.specs.Prelude.{if◌then◌else◌, List, [], ◌∷◌, Option, Some, None, option_and_then, option_map, codes, string_bytes}
use Rattle.std.specs.Option.{option_or}
use Rattle.std.specs.Str.{bytes_eq}
use Rattle.command_line.specs.declared.option_name.OptionName.{OptionName}
use Rattle.command_line.specs.declared.option_reading.OptionMatch as declared_given
use Rattle.command_line.specs.declared.spelling.Spelling as declared_spelling
use Rattle.command_line.specs.declared.spelling.Spelling.TheVariants as spelling
use Rattle.command_line.specs.Operands.{Word, dashes}
use Rattle.command_line.specs.OptionNames.{has_value, is_named, text_of}
use Rattle.command_line.specs.Options.{behind}

-- an option, and its value; a flag has the empty one
pub record OptionMatch : Type 0 where
  pub option : OptionName
  pub value : Word

-- what a word is where options may stand: a flag; an option whose value is the next word, whatever that looks like; or one with its value behind the sign
pub data Spelling : Type 0 where
  flag : OptionName → Spelling
  awaits : OptionName → Spelling
  holds : OptionName → Word → Spelling

abbrev pub given_as : declared_given.OptionMatch → OptionMatch
given_as given = record { option = given.option; value = string_bytes given.value }

abbrev pub spelling_as : declared_spelling.Spelling → Spelling
spelling_as (spelling.Flag option) = flag option
spelling_as (spelling.Awaits option) = awaits option
spelling_as (spelling.Holds option value) = holds option value.now

-- what the word has behind the option's name and the sign
abbrev pub value_behind : OptionName → Word → Option Word
value_behind option word = option_and_then (behind (codes "=")) (behind (text_of option) word)

abbrev pub spelled_flag : OptionName → Word → Option Spelling
spelled_flag option word = if is_named option word then Some (flag option) else None

abbrev pub spelled_value : OptionName → Word → Option Spelling
spelled_value option word = if bytes_eq word (text_of option) then Some (awaits option) else option_map (holds option) (value_behind option word)

-- how the word spells this option, if it does
abbrev pub spelled_as : OptionName → Word → Option Spelling
spelled_as option word = if has_value option then spelled_value option word else spelled_flag option word

-- how it spells the first of these that it spells
abbrev pub spelled : List OptionName → Word → Option Spelling
spelled [] word = None
spelled (option ∷ options) word = option_or (spelled_as option word) (spelled options word)

-- the words that are no options, and the options with their values
pub record Reading : Type 0 where
  pub plain : List Word
  pub given : List OptionMatch

abbrev pub nothing : Reading
nothing = record { plain = []; given = [] }

abbrev pub with_word : Word → Reading → Reading
with_word word reading = record reading { plain = word ∷ reading.plain }

abbrev pub with_given : OptionName → Word → Reading → Reading
with_given option value reading = record reading { given = record { option = option; value = value } ∷ reading.given }

-- an option at the end whose value is missing stays; else the next word is its value, before what the words behind that come to
abbrev pub with_awaited : OptionName → Word → Option (Word × Reading) → Reading
with_awaited option word None = with_word word nothing
with_awaited option word (Some behind) = with_given option behind.0 behind.1

-- a word that is spelled so, before what the words behind it come to, or the words behind the next one
abbrev pub with_spelled : Option Spelling → Word → Reading → Option (Word × Reading) → Reading
with_spelled None word reading behind = with_word word reading
with_spelled (Some (flag option)) word reading behind = with_given option [] reading
with_spelled (Some (holds option value)) word reading behind = with_given option value reading
with_spelled (Some (awaits option)) word reading behind = with_awaited option word behind

abbrev mutual
  -- behind the word that ends options there are none
  pub read : List OptionName → List Word → Reading
  read options [] = nothing
  read options (word ∷ words) =
      if bytes_eq word dashes then record { plain = word ∷ words; given = [] }
      else with_spelled (spelled options word) word (read options words) (read_behind options words)

  -- the first word, and what the words behind it come to
  pub read_behind : List OptionName → List Word → Option (Word × Reading)
  read_behind options [] = None
  read_behind options (word ∷ words) = Some (word, read options words)

-- the option that is spelled so before these words: its value, and the words behind that
abbrev pub taken : Spelling → List Word → Option (OptionName × Word × List Word)
taken (flag option) words = Some (option, [], words)
taken (holds option value) words = Some (option, value, words)
taken (awaits option) [] = None
taken (awaits option) (value ∷ words) = Some (option, value, words)

-- the option at the beginning of the words
abbrev pub leading : List OptionName → Word → List Word → Option (OptionName × Word × List Word)
leading options word words = option_and_then (λ found. taken found words) (spelled options word)
