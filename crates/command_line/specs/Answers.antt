-- What clap's answers say of the words.
use Rattle.std.specs.Prelude.{◌≡◌, ◌≢◌, List, Option, Some, None, Result, Ok, Err, codes, ⊤}
use Rattle.clap.specs.Words.{Row, Text}
use Rattle.clap.specs.declared.error.kind.ErrorKind.{ErrorKind}
use Rattle.clap.specs.declared.error.kind.ErrorKind.TheVariants.{DisplayHelp, DisplayVersion, OutOfMemory}
use Rattle.command_line.specs.declared.command.Line.{Line}
use Rattle.command_line.specs.declared.command.Line.TheVariants.{Limits, Plan, Run, Rehearse, State, Check, Lint, Explain, Print}
use Rattle.command_line.specs.declared.command.Source.{Source}
use Rattle.command_line.specs.declared.fault.LineFault.{LineFault}
use Rattle.command_line.specs.declared.fault.LineFault.TheVariants.{BadLine, Apart, Unexplained, Memory}
use Rattle.command_line.specs.Messages as messages
use Rattle.command_line.specs.Messages.{IsAskedFor}
use Rattle.command_line.specs.Syntax.{file_in, forks_found}
use Rattle.command_line.specs.Operands.{Word}
use Rattle.command_line.specs.Asked.{ParsedCommand, asked_by, both_names, file_name, line_asks, three_names}
use Rattle.command_line.specs.Asked as by

-- the two files were found
abbrev pub IsFound : Word × Word → Option Word → Option Word → Type 0
IsFound files inventory playbook = (inventory ≡ Some files.0) × (playbook ≡ Some files.1)

-- an error of clap's, by its kind: the help and the version are texts to print, any other text explains a bad line, and the
-- text is that error's own
abbrev pub AnswersFor : ErrorKind → Result Line LineFault → Type 0
AnswersFor kind (Ok (Print message)) = (messages.kind_of message ≡ kind) × IsAskedFor kind
AnswersFor kind (Ok (Limits inventory)) = ⊥
AnswersFor kind (Ok (Plan inventory playbook)) = ⊥
AnswersFor kind (Ok (Run inventory playbook forks)) = ⊥
AnswersFor kind (Ok (Rehearse inventory playbook)) = ⊥
AnswersFor kind (Ok (State inventory journal)) = ⊥
AnswersFor kind (Ok (Check inventory playbook plan)) = ⊥
AnswersFor kind (Ok (Lint inventory playbook)) = ⊥
AnswersFor kind (Ok (Explain word)) = ⊥
AnswersFor kind (Err Memory) = ⊤
AnswersFor kind (Err (Apart clash)) = ⊥
AnswersFor kind (Err Unexplained) = ⊥
AnswersFor kind (Err (BadLine message)) =
    (messages.kind_of message ≡ kind) × (kind ≢ OutOfMemory) × (kind ≢ DisplayHelp) × (kind ≢ DisplayVersion)

-- clap found both files of the command of this name, the second under this argument
abbrev pub FindsBoth : Word → Word → Word × Word → Option (Text × List Row) → Type 0
FindsBoth command argument files found = IsFound files (file_in command (codes "INV") found) (file_in command argument found)

-- clap found the inventory's file of `lint`, and the playbook's where there is one
abbrev pub FindsLint : Word → Option Word → Option (Text × List Row) → Type 0
FindsLint inventory playbook found = (file_in (codes "lint") (codes "INV") found ≡ Some inventory) × (file_in (codes "lint") (codes "PLAY") found ≡ playbook)

-- clap found what is asked for
abbrev pub Finds : ParsedCommand → Option (Text × List Row) → Type 0
Finds (by.limits inventory) found = file_in (codes "limits") (codes "INV") found ≡ Some inventory
Finds (by.plan files) found = FindsBoth (codes "plan") (codes "PLAY") files found
Finds (by.run run) found = FindsBoth (codes "run") (codes "PLAY") (run.0, run.1) found × (forks_found found ≡ Some run.2)
Finds (by.rehearse files) found = FindsBoth (codes "rehearse") (codes "PLAY") files found
Finds (by.state files) found = FindsBoth (codes "state") (codes "JOURNAL") files found
Finds (by.check files) found = FindsBoth (codes "check") (codes "PLAY") (files.0, files.1) found × (file_in (codes "check") (codes "PLAN") found ≡ Some files.2)
Finds (by.lint inventory playbook) found = FindsLint inventory playbook found
Finds (by.explain word) found = file_in (codes "explain") (codes "NUMBER|RULE") found ≡ Some word

-- clap found something else than what is asked for, if anything is
abbrev pub FindsOthers : Option ParsedCommand → Option (Text × List Row) → Type 0
FindsOthers None found = ⊤
FindsOthers (Some wanted) found = Finds wanted found → ⊥

-- words that clap took, and what it found for them
abbrev pub Disagrees : List Word → Option (Text × List Row) → LineFault → Type 0
Disagrees words found Memory = ⊤
Disagrees words found (BadLine message) = ⊥
Disagrees words found (Apart clash) = ⊥
Disagrees words found Unexplained = FindsOthers (asked_by words) found

-- the line that asks for this
abbrev pub AsksFor : ParsedCommand → Line → Type 0
AsksFor wanted line = line_asks line ≡ Some wanted

-- the source is the file of this name
abbrev pub IsFile : Word → Source → Type 0
IsFile name source = file_name source ≡ Some name

-- the sources are the files of these names
abbrev pub AreFiles : Word × Word → Source × Source → Type 0
AreFiles names sources = both_names sources.0 sources.1 ≡ Some names

abbrev pub AreThree : Word × Word × Word → Source × Source × Source → Type 0
AreThree names sources = three_names sources.0 sources.1 sources.2 ≡ Some names

-- a line is not made for want of memory, or since clap found other files
abbrev pub IsUnmade : Type 0 → LineFault → Type 0
IsUnmade agreed Memory = ⊤
IsUnmade agreed (BadLine message) = ⊥
IsUnmade agreed (Apart clash) = ⊥
IsUnmade agreed Unexplained = agreed → ⊥
