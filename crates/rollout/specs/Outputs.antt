-- Names of files that are refused before anything is read.
use Rattle.std.specs.Prelude.{◌≡◌, ◌⊎◌, ℕ, Option, Some, None, List, string_bytes}
use Rattle.bounded_io.specs.declared.input_fault.InputFault.TheVariants as input_fault
use Rattle.command_line.specs.Wishes.{Wish}
use Rattle.command_line.specs.declared.command.Source.{Source}
use Rattle.command_line.specs.declared.command.Source.TheVariants.{StandardInput, File}
use Rattle.rollout.specs.declared.fault.Fault.{Fault}
use Rattle.rollout.specs.declared.fault.Fault.TheVariants.{Input, OutputIsInput, Memory}

-- the fault names this output; or memory is wanting for the name
abbrev pub NamesOutput : List ℕ → Fault → Type 0
NamesOutput output (OutputIsInput name) = string_bytes name ≡ output
NamesOutput output Memory = Unit {0}
NamesOutput output fault = ⊥

-- it names the one that the words ask for
abbrev pub OverwritesOf : Option (List ℕ) → Fault → Type 0
OverwritesOf None fault = ⊥
OverwritesOf (Some output) fault = NamesOutput output fault

-- the file of this name can't be had
abbrev pub NamesFile : List ℕ → Source → Type 0
NamesFile name StandardInput = ⊥
NamesFile name (File file) = string_bytes file ≡ name

-- the fault names this stop file, which could never be seen; or memory is wanting for the name
abbrev pub NamesStop : List ℕ → Fault → Type 0
NamesStop name (Input source input_fault.File) = NamesFile name source
NamesStop name Memory = Unit {0}
NamesStop name fault = ⊥

abbrev pub MissesStopOf : Option (List ℕ) → Fault → Type 0
MissesStopOf None fault = ⊥
MissesStopOf (Some name) fault = NamesStop name fault

-- a file that is to be written is one that is read, or a stop file could never be seen
abbrev pub RefusesName : Wish → Fault → Type 0
RefusesName wish fault = OverwritesOf wish.picture fault ⊎ MissesStopOf wish.stop_file fault
