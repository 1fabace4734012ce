-- The options that are taken out of the words before clap reads them.
use Rattle.std.specs.Prelude.{Bool, true, false, ◌||◌, [], codes, unwrap_or}
use Rattle.std.specs.Str.{bytes_eq}
use Rattle.command_line.specs.declared.option_name.OptionName.{OptionName}
use Rattle.command_line.specs.declared.option_name.OptionName.TheVariants.{Allow, ChangedInputs, Color, Commands, Expect, Failing, Forecast, From, Groups, Journal, Json, LockFile, Up, NoLock, Picture, Quiet, Resume, StopFile, Strict, Verbose}
use Rattle.command_line.specs.Operands.{Word}
use Rattle.command_line.specs.Options.{behind}

-- how the option is written
abbrev pub text_of : OptionName → Word
text_of Allow = codes "--allow"
text_of ChangedInputs = codes "--changed-inputs"
text_of Color = codes "--color"
text_of Commands = codes "--commands"
text_of Expect = codes "--expect"
text_of Failing = codes "--failing"
text_of Forecast = codes "--forecast"
text_of From = codes "--from"
text_of Groups = codes "--groups"
text_of Journal = codes "--journal"
text_of Json = codes "--json"
text_of LockFile = codes "--lock-file"
text_of Up = codes "--up"
text_of NoLock = codes "--no-lock"
text_of Picture = codes "--picture"
text_of Quiet = codes "--quiet"
text_of Resume = codes "--resume"
text_of StopFile = codes "--stop-file"
text_of Strict = codes "--strict"
text_of Verbose = codes "--verbose"

-- how it is written without its dashes
abbrev pub id_of : OptionName → Word
id_of option = unwrap_or (behind (codes "--") (text_of option)) []

-- a value belongs to it
abbrev pub has_value : OptionName → Bool
has_value Allow = true
has_value ChangedInputs = false
has_value Color = true
has_value Commands = false
has_value Expect = true
has_value Failing = true
has_value Forecast = false
has_value From = true
has_value Groups = false
has_value Journal = true
has_value Json = false
has_value LockFile = true
has_value Up = true
has_value NoLock = false
has_value Picture = true
has_value Quiet = false
has_value Resume = true
has_value StopFile = true
has_value Strict = false
has_value Verbose = false

-- the two are one option: they are written alike
abbrev pub is_same : OptionName → OptionName → Bool
is_same option other = bytes_eq (text_of option) (text_of other)

-- the word is the letter that stands for the option
abbrev pub has_letter : OptionName → Word → Bool
has_letter Allow word = false
has_letter ChangedInputs word = false
has_letter Color word = false
has_letter Commands word = false
has_letter Expect word = false
has_letter Failing word = false
has_letter Forecast word = false
has_letter From word = false
has_letter Groups word = false
has_letter Journal word = false
has_letter Json word = false
has_letter LockFile word = false
has_letter Up word = false
has_letter NoLock word = false
has_letter Picture word = false
has_letter Quiet word = false
has_letter Resume word = false
has_letter StopFile word = false
has_letter Strict word = false
has_letter Verbose word = bytes_eq word (codes "-v")

-- the word is the option's name, or that letter
abbrev pub is_named : OptionName → Word → Bool
is_named option word = bytes_eq word (text_of option) || has_letter option word
