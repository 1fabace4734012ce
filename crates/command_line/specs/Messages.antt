-- The texts that clap has for a line's words.
use Rattle.std.specs.Prelude.{◌≡◌, ◌⊎◌, ℕ, List, string_bytes}
use Rattle.clap.specs.declared.error.kind.ErrorKind.{ErrorKind}
use Rattle.clap.specs.declared.error.kind.ErrorKind.TheVariants.{DisplayHelp, DisplayVersion}
use Rattle.command_line.specs.declared.message.Message.{Message}

abbrev pub text_of : Message → List ℕ
text_of message = string_bytes message.text

-- what kind of clap's errors the text is of
abbrev pub kind_of : Message → ErrorKind
kind_of message = message.kind

-- the help and the version are asked for; every other text says what is wrong
abbrev pub IsAskedFor : ErrorKind → Type 0
IsAskedFor kind = (kind ≡ DisplayHelp) ⊎ (kind ≡ DisplayVersion)
