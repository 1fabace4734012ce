-- What the words of a line ask for beside it, by their options.
use Rattle.std.specs.Prelude.{Bool, ◌&&◌, ◌||◌, not, if◌then◌else◌, List, [], ◌∷◌, ◌++◌, Option, Some, None, option_map, codes, flat_map, string_bytes}
use Rattle.std.specs.List.{last_or, list_all, list_any}
use Rattle.std.specs.Option.{option_or}
use Rattle.std.specs.Str.{bytes_eq}
use Rattle.command_line.specs.declared.option_conflict.OptionConflict.{OptionConflict}
use Rattle.command_line.specs.declared.option_conflict.OptionConflict.TheVariants.{FailingAlone, JournalOfResume, ChangedInputsAlone, UpAlone, GroupsFrom, ExpectBeyond, CommandsBeside, NoJson, StrictOfOthers, NoColor}
use Rattle.command_line.specs.declared.option_name.OptionName.{OptionName}
use Rattle.command_line.specs.declared.option_name.OptionName.TheVariants.{Allow, ChangedInputs, Color, Commands, Expect, Failing, Forecast, From, Groups, Journal, Json, LockFile, Up, NoLock, Picture, Quiet, Resume, StopFile, Strict, Verbose}
use Rattle.command_line.specs.declared.options.Options as declared
use Rattle.command_line.specs.Operands.{Word}
use Rattle.command_line.specs.OptionNames.{is_same}
use Rattle.command_line.specs.OptionsOf.{options_of}
use Rattle.command_line.specs.OptionReads.{OptionMatch, Reading, read}

abbrev pub is_given : OptionName → OptionMatch → Bool
is_given option one = is_same option one.option

-- the option was given
abbrev pub has : OptionName → List OptionMatch → Bool
has option given = list_any (is_given option) given

-- the value, where it is one of the option
abbrev pub value_of : OptionName → OptionMatch → List Word
value_of option one = if is_given option one then one.value ∷ [] else []

-- the values of the option, in their order
abbrev pub values : OptionName → List OptionMatch → List Word
values option given = flat_map (value_of option) given

abbrev pub last_value : OptionName → List OptionMatch → Option Word
last_value option given = last_or None (values option given)

-- values in one text, a comma behind each
abbrev pub joined : List Word → Word
joined words = flat_map (λ word. word ++ codes ",") words

abbrev pub joined_values : OptionName → List OptionMatch → Word
joined_values option given = joined (values option given)

-- a journal is named from which what is asked for begins
abbrev pub starts_from : List OptionMatch → Bool
starts_from given = has Resume given || has From given

-- a table of groups or a picture is asked for
abbrev pub tells_groups : List OptionMatch → Bool
tells_groups given = has Groups given || has Picture given

-- more is asked of a plan, or of the table of limits, than how things stand at the start
abbrev pub tells_beyond : List OptionMatch → Bool
tells_beyond given = has Forecast given || (tells_groups given || has From given)

-- nothing else is asked of a plan than its commands; when tables are colored may be given with any plan
abbrev pub stand_alone : List OptionMatch → Bool
stand_alone given = not (tells_beyond given) && not (has Expect given)

-- what is asked for has a form in JSON
abbrev pub has_json : List OptionMatch → Bool
has_json given = not (tells_groups given) && (not (has From given) && (not (has Expect given) && not (has Commands given)))

-- a run is asked to begin only where no name may be missing
abbrev pub starts_strictly : Word → List OptionMatch → Bool
starts_strictly command given = bytes_eq command (codes "run") && has Strict given

-- it begins with other hosts than the inventory has as up
abbrev pub starts_with_others : List OptionMatch → Bool
starts_with_others given = has Resume given || has Up given

-- when tables are coloured: at a terminal, always, or never
abbrev pub is_when : Word → Bool
is_when word = bytes_eq word (codes "auto") || bytes_eq word (codes "always") || bytes_eq word (codes "never")

-- where it is the option for colours, its value is one of these
abbrev pub says_when : OptionMatch → Bool
says_when one = not (is_given Color one) || is_when one.value

abbrev pub are_colours : List OptionMatch → Bool
are_colours given = list_all says_when given

-- an option goes only with what holds
abbrev goes_with : Bool → Bool → Bool
goes_with given holds = not given || holds

-- unless what a rule asks for holds there is this clash
abbrev unless : Bool → OptionConflict → Option OptionConflict → Option OptionConflict
unless holds clash others = if holds then others else Some clash

-- hosts fail in a forecast; a run that goes on is kept where it was; and where nothing begins from a journal or tells of one, no inputs are others than its own,
-- and of a run alone hosts are up by now. What begins from a journal has no table of its groups and no picture.
abbrev pub clash_of_beginning : Word → List OptionMatch → Option OptionConflict
clash_of_beginning command given =
    unless (goes_with (has Failing given) (has Forecast given)) FailingAlone (
    unless (goes_with (has Journal given) (not (has Resume given))) JournalOfResume (
    unless (goes_with (has ChangedInputs given) (starts_from given || bytes_eq command (codes "state"))) ChangedInputsAlone (
    unless (goes_with (has Up given) (starts_from given || bytes_eq command (codes "run"))) UpAlone (
    unless (goes_with (has From given) (not (tells_groups given))) GroupsFrom None))))

-- numbers are expected of the table of limits and of the plan at the start, and commands are printed instead of all else. What is told of the start or the end, and of a forecast, has a form
-- in JSON. Names may be missing as the inventory has the hosts: where others are up, or a run goes on, nobody looks for them.
abbrev pub clash_of_form : Word → List OptionMatch → Option OptionConflict
clash_of_form command given =
    unless (goes_with (has Expect given) (not (tells_beyond given))) ExpectBeyond (
    unless (goes_with (has Commands given) (stand_alone given)) CommandsBeside (
    unless (goes_with (has Json given) (has_json given)) NoJson (
    unless (goes_with (starts_strictly command given) (not (starts_with_others given))) StrictOfOthers (
    unless (are_colours given) NoColor None))))

-- why these options don't go together, if they don't: the first rule that they break
abbrev pub clash_of : Word → List OptionMatch → Option OptionConflict
clash_of command given = option_or (clash_of_beginning command given) (clash_of_form command given)

-- the words are taken as they are where their options don't go together
abbrev pub kept : Option OptionConflict → List Word → Reading → Reading
kept None words reading = reading
kept (Some clash) words reading = record { plain = words; given = [] }

abbrev pub reading_of : Word → List Word → Reading
reading_of command words = kept (clash_of command (read (options_of command) words).given) words (read (options_of command) words)

-- why the options of a line don't go together, if they don't
abbrev pub clash_in : List Word → Option OptionConflict
clash_in [] = None
clash_in (command ∷ words) = clash_of command (read (options_of command) words).given

-- the words of a line without their options
abbrev pub plain : List Word → List Word
plain [] = []
plain (command ∷ words) = command ∷ (reading_of command words).plain

-- the options of a line
abbrev pub given_in : List Word → List OptionMatch
given_in [] = []
given_in (command ∷ words) = (reading_of command words).given

-- what is asked for beside a line: to tell of itself, or nothing; to refuse, or to begin only where no name may be missing; to hold no lock, or that of another file; the file that ends a run; the new one in which it is kept; the journal from which a run
-- goes on, or a plan, a rehearsal or limits begin; the hosts that are up by now, a comma behind each name; whether the inputs may be others than those of that journal; the names of the
-- hosts that fail in the forecast, if one is requested; the table of groups, and when that is colored; the file of the picture; the commands of the steps; JSON; what is expected, a
-- comma behind each list; and the kinds of notes that are allowed, likewise
pub record Wish : Type 0 where
  pub verbose : Bool
  pub quiet : Bool
  pub strict : Bool
  pub unlocked : Bool
  pub lock_file : Option Word
  pub stop_file : Option Word
  pub journal : Option Word
  pub from : Option Word
  pub mended : Word
  pub others : Bool
  pub forecast : Option Word
  pub groups : Bool
  pub color : Option Word
  pub picture : Option Word
  pub commands : Bool
  pub json : Bool
  pub expected : Option Word
  pub allowed : Word

abbrev pub wish_of : List OptionMatch → Wish
wish_of given = record {
  verbose = has Verbose given;
  quiet = has Quiet given;
  strict = has Strict given;
  unlocked = has NoLock given;
  lock_file = last_value LockFile given;
  stop_file = last_value StopFile given;
  journal = last_value Journal given;
  from = option_or (last_value Resume given) (last_value From given);
  mended = joined_values Up given;
  others = has ChangedInputs given;
  forecast = if has Forecast given then Some (joined_values Failing given) else None;
  groups = has Groups given;
  color = last_value Color given;
  picture = last_value Picture given;
  commands = has Commands given;
  json = has Json given;
  expected = if has Expect given then Some (joined_values Expect given) else None;
  allowed = joined_values Allow given;
}

-- what the words of a line ask for beside it
abbrev pub wished : List Word → Wish
wished words = wish_of (given_in words)

-- the same as the program has it
abbrev pub wish_as : declared.Options → Wish
wish_as wishes = record {
  verbose = wishes.is_verbose;
  quiet = wishes.is_quiet;
  strict = wishes.is_strict;
  unlocked = wishes.is_unlocked;
  lock_file = option_map string_bytes wishes.lock_file;
  stop_file = option_map string_bytes wishes.stop_file;
  journal = option_map string_bytes wishes.journal;
  from = option_map string_bytes wishes.from;
  mended = string_bytes wishes.mended;
  others = wishes.takes_others;
  forecast = option_map string_bytes wishes.forecast;
  groups = wishes.is_grouped;
  color = option_map string_bytes wishes.color;
  picture = option_map string_bytes wishes.picture;
  commands = wishes.tells_commands;
  json = wishes.is_json;
  expected = option_map string_bytes wishes.expected;
  allowed = string_bytes wishes.allowed;
}
