-- The inputs that a line names.
use Rattle.std.specs.Prelude.{◌≡◌, ◌≢◌, ◌⊎◌, ℕ, Bool, List, Option, string_bytes}
use Rattle.std.specs.declared.io.ErrorKind.{ErrorKind}
use Rattle.std.specs.declared.io.ErrorKind.TheVariants.{OutOfMemory}
use Rattle.std.specs.Io.KnownBytes.{Keeps}
use Rattle.bounded_io.specs.Reading.{IsWholeInput, BreaksInput}
use Rattle.bounded_io.specs.declared.input_fault.InputFault.{InputFault}
use Rattle.bounded_io.specs.declared.input_fault.InputFault.TheVariants as input_fault
use Rattle.command_line.specs.declared.command.Source.{Source}
use Rattle.command_line.specs.declared.command.Source.TheVariants.{StandardInput, File}
use Rattle.rollout.specs.Systems.{Fails, Sources, Known, Opens}
use Rattle.rollout.specs.declared.fault.Fault.{Fault}
use Rattle.rollout.specs.declared.fault.Fault.TheVariants.{Line, Input, Read, Fleet, Playbook, Pattern, Mixed, LongLine, JournalThere, JournalWrite, ChildrenIgnored, Stopped, Locked, BadJournal, OtherInputs, NeedsResult, OutputIsInput, NoValue, BadPlan, Unexpected, BadList, Write, Memory}

-- a file that was opened was read whole
pub record IsTextOfFile (known : Known (List ℕ)) (text : List ℕ) : Type 0 where
  pub opened : Option (List ℕ)
  pub left : Option (List ℕ)
  pub is_reliable : Bool
  pub opens : Opens known opened is_reliable
  pub whole : IsWholeInput opened left text

-- the text is that of the source: all that standard input had, or all that the file of that name has
abbrev pub IsTextOf : Sources → Source → Option (List ℕ) → Option (List ℕ) → List ℕ → Type 0
IsTextOf sources StandardInput old new text = IsWholeInput old new text
IsTextOf sources (File name) old new text = IsTextOfFile (sources.known.files (string_bytes name)) text × Keeps old new

-- what an error of this kind makes of a file that can't be opened
abbrev pub IsFaultOfKind : ErrorKind → InputFault → Type 0
IsFaultOfKind kind input_fault.File = kind ≢ OutOfMemory
IsFaultOfKind kind input_fault.Memory = kind ≡ OutOfMemory
IsFaultOfKind kind input_fault.TooLarge = ⊥

-- a file could not be opened
pub record IsClosed (known : Known (List ℕ)) (fault : InputFault) : Type 0 where
  pub kind : ErrorKind
  pub fails : Fails known kind
  pub tells : IsFaultOfKind kind fault

-- a file that was opened could not be read whole
pub record BreaksFile (known : Known (List ℕ)) (fault : InputFault) : Type 0 where
  pub opened : Option (List ℕ)
  pub left : Option (List ℕ)
  pub is_reliable : Bool
  pub opens : Opens known opened is_reliable
  pub breaks : BreaksInput is_reliable opened left fault

abbrev pub IsFaultOfFile : Known (List ℕ) → InputFault → Type 0
IsFaultOfFile known fault = IsClosed known fault ⊎ BreaksFile known fault

-- how much of the source was read when it was found unreadable
abbrev pub BreaksSource : Sources → Source → Option (List ℕ) → Option (List ℕ) → InputFault → Type 0
BreaksSource sources StandardInput old new fault = BreaksInput sources.is_reliable old new fault
BreaksSource sources (File name) old new fault = IsFaultOfFile (sources.known.files (string_bytes name)) fault × Keeps old new

-- the source could not be read whole, and the fault names it
abbrev pub IsUnreadable : Sources → Source → Option (List ℕ) → Option (List ℕ) → Fault → Type 0
IsUnreadable sources source old new (Input named fault) = (named ≡ source) × BreaksSource sources source old new fault
IsUnreadable sources source old new (Line fault) = ⊥
IsUnreadable sources source old new (Read fault) = ⊥
IsUnreadable sources source old new (Fleet fault) = ⊥
IsUnreadable sources source old new (Playbook fault) = ⊥
IsUnreadable sources source old new (Pattern fault) = ⊥
IsUnreadable sources source old new Mixed = ⊥
IsUnreadable sources source old new LongLine = ⊥
IsUnreadable sources source old new ChildrenIgnored = ⊥
IsUnreadable sources source old new JournalThere = ⊥
IsUnreadable sources source old new JournalWrite = ⊥
IsUnreadable sources source old new Stopped = ⊥
IsUnreadable sources source old new Locked = ⊥
IsUnreadable sources source old new (BadJournal line) = ⊥
IsUnreadable sources source old new OtherInputs = ⊥
IsUnreadable sources source old new (NeedsResult name) = ⊥
IsUnreadable sources source old new (OutputIsInput name) = ⊥
IsUnreadable sources source old new (NoValue missing) = ⊥
IsUnreadable sources source old new (BadPlan line) = ⊥
IsUnreadable sources source old new (Unexpected found) = ⊥
IsUnreadable sources source old new (BadList list) = ⊥
IsUnreadable sources source old new (Write fault) = ⊥
IsUnreadable sources source old new Memory = ⊥

-- both inputs were read whole, the inventory first
pub record ReadsBoth (sources : Sources) (inventory playbook : Source) (old new : Option (List ℕ)) (first second : List ℕ) : Type 0 where
  pub between : Option (List ℕ)
  pub is_inventory : IsTextOf sources inventory old between first
  pub is_playbook : IsTextOf sources playbook between new second

-- the inventory was read whole, and the playbook could not be
pub record LacksPlaybook (sources : Sources) (inventory playbook : Source) (old new : Option (List ℕ)) (fault : Fault) : Type 0 where
  pub first : List ℕ
  pub between : Option (List ℕ)
  pub is_inventory : IsTextOf sources inventory old between first
  pub unreadable : IsUnreadable sources playbook between new fault

-- the fault names the first input that could not be read whole
abbrev pub InputUnreadable : Sources → Source → Source → Option (List ℕ) → Option (List ℕ) → Fault → Type 0
InputUnreadable sources inventory playbook old new fault =
    IsUnreadable sources inventory old new fault ⊎ LacksPlaybook sources inventory playbook old new fault
