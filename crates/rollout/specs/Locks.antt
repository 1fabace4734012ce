-- What a run reads of the file that it locks.
use Rattle.std.specs.Prelude.{ℕ, Bool, List, Option, ⊤, string_bytes}
use Rattle.command_line.specs.declared.command.Source.{Source}
use Rattle.command_line.specs.declared.command.Source.TheVariants.{StandardInput, File}
use Rattle.rollout.specs.Inputs.{IsFaultOfFile, IsTextOfFile}
use Rattle.rollout.specs.Systems.{Files, Known, Opens}
use Rattle.rollout.specs.declared.inputs.Given as declared
use Rattle.rollout.specs.declared.inputs.Given.TheVariants.{Nothing, Text, Fault}
use Rattle.rollout.specs.declared.locking.Locking as ways
use Rattle.rollout.specs.declared.locking.Locking.TheVariants as way

-- the file was read whole, or this is why it could not be; or it was not read
abbrev pub IsGivenOf : Known (List ℕ) → declared.Given → Type 0
IsGivenOf known Nothing = ⊤
IsGivenOf known (Text text) = IsTextOfFile known text.items
IsGivenOf known (Fault fault) = IsFaultOfFile known fault

-- the same of a source; standard input is never read before
abbrev pub IsGiven : Files → Source → declared.Given → Type 0
IsGiven files StandardInput given = ⊤
IsGiven files (File name) given = IsGivenOf (files (string_bytes name)) given

-- it was read, or can't be
abbrev pub IsRead : declared.Given → Type 0
IsRead Nothing = ⊥
IsRead (Text text) = ⊤
IsRead (Fault fault) = ⊤

-- it was read from a reader of the file that was opened
abbrev pub IsReadFrom : Option (List ℕ) → Bool → declared.Given → Type 0
IsReadFrom opened is_reliable given = (known : Known (List ℕ)) → Opens known opened is_reliable → IsGivenOf known given

-- a file of its own is to be locked, and this holds; of other ways nothing is said
abbrev pub IfFile : ways.Locking → Type 0 → Type 0
IfFile way.Inventory holds = Unit {0}
IfFile (way.File name) holds = holds
IfFile way.Nothing holds = Unit {0}
