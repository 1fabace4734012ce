-- Which options a command has.
use Rattle.std.specs.Prelude.{if◌then◌else◌, List, [], ◌∷◌, codes}
use Rattle.std.specs.Str.{bytes_eq}
use Rattle.command_line.specs.declared.option_name.OptionName.{OptionName}
use Rattle.command_line.specs.declared.option_name.OptionName.TheVariants.{Allow, ChangedInputs, Color, Commands, Expect, Failing, Forecast, From, Groups, Journal, Json, LockFile, Up, NoLock, Picture, Quiet, Resume, StopFile, Strict, Verbose}
use Rattle.command_line.specs.Operands.{Word}

-- the options that a command has beside those that clap reads
abbrev pub options_of : Word → List OptionName
options_of command =
    if bytes_eq command (codes "run") then Verbose ∷ Quiet ∷ StopFile ∷ Journal ∷ Resume ∷ Up ∷ ChangedInputs ∷ LockFile ∷ NoLock ∷ Strict ∷ Json ∷ []
    else (if bytes_eq command (codes "plan") then Forecast ∷ Failing ∷ Groups ∷ Color ∷ Picture ∷ Commands ∷ Expect ∷ From ∷ Up ∷ ChangedInputs ∷ Json ∷ Verbose ∷ []
    else (if bytes_eq command (codes "rehearse") then Strict ∷ From ∷ Up ∷ ChangedInputs ∷ Json ∷ Verbose ∷ []
    else (if bytes_eq command (codes "limits") then Expect ∷ From ∷ Up ∷ ChangedInputs ∷ Json ∷ Verbose ∷ []
    else (if bytes_eq command (codes "state") then ChangedInputs ∷ []
    else (if bytes_eq command (codes "lint") then Allow ∷ [] else [])))))
