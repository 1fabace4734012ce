-- What a line of words says, the program's own name left out.
use Rattle.std.specs.Prelude.{◌≡◌, ◌≢◌, Bool, true, false, ◌||◌, List, [], ◌∷◌}
use Rattle.std.specs.Prelude.{Option, Some, None, is_some, codes, ⊤}
use Rattle.clap.specs.Words.{IsAmong, fault_of}
use Rattle.command_line.specs.Messages as messages
use Rattle.command_line.specs.Messages.{IsAskedFor}
use Rattle.command_line.specs.Syntax.{rollout}
use Rattle.command_line.specs.declared.command.Line.{Line}
use Rattle.command_line.specs.declared.command.Line.TheVariants.{Limits, Plan, Run, Rehearse, State, Check, Lint, Explain, Print}
use Rattle.command_line.specs.declared.fault.LineFault.{LineFault}
use Rattle.command_line.specs.declared.message.Message.{Message}
use Rattle.command_line.specs.declared.fault.LineFault.TheVariants.{BadLine, Apart, Unexplained, Memory}
use Rattle.command_line.specs.declared.command.Source.TheVariants.{StandardInput, File}
use Rattle.command_line.specs.Asked.{ParsedCommand, asked_by, line_asks}
use Rattle.command_line.specs.declared.option_conflict.OptionConflict.{OptionConflict}
use Rattle.command_line.specs.Wishes.{clash_in, plain}
use Rattle.command_line.specs.Operands.{Word}

abbrev pub is_empty : List Word → Bool
is_empty [] = true
is_empty (word ∷ words) = false

-- the words are a command: none of them, or a command's name with its operands, and the forks of a run
abbrev pub is_command : List Word → Bool
is_command words = is_empty words || is_some (asked_by words)

-- the text is one that clap has for the words, by the program's syntax
abbrev pub IsTextFor : List Word → Message → Type 0
IsTextFor words message = IsAmong (messages.kind_of message) (fault_of rollout words)

-- the words ask for this
abbrev pub AskFor : List Word → Option ParsedCommand → Type 0
AskFor words None = ⊥
AskFor words (Some wanted) = asked_by words ≡ Some wanted

-- the words say this line; no command prints a text in place of what it does
abbrev pub Says : List Word → Line → Type 0
Says words (Limits StandardInput) = words ≡ []
Says words (Print message) = (is_command words ≡ false) × IsAskedFor (messages.kind_of message) × IsTextFor words message
Says words (Limits (File file)) = AskFor words (line_asks (Limits (File file)))
Says words (Plan inventory playbook) = AskFor words (line_asks (Plan inventory playbook))
Says words (Run inventory playbook forks) = AskFor words (line_asks (Run inventory playbook forks))
Says words (Rehearse inventory playbook) = AskFor words (line_asks (Rehearse inventory playbook))
Says words (State inventory journal) = AskFor words (line_asks (State inventory journal))
Says words (Check inventory playbook plan) = AskFor words (line_asks (Check inventory playbook plan))
Says words (Lint inventory playbook) = AskFor words (line_asks (Lint inventory playbook))
Says words (Explain word) = AskFor words (line_asks (Explain word))

-- lines that ask for the help or the version
abbrev pub requests : List (List Word)
requests =
    (codes "--help" ∷ []) ∷ (codes "-h" ∷ []) ∷ (codes "--version" ∷ []) ∷ (codes "-V" ∷ [])
    ∷ (codes "limits" ∷ codes "--help" ∷ []) ∷ (codes "limits" ∷ codes "-h" ∷ [])
    ∷ (codes "plan" ∷ codes "--help" ∷ []) ∷ (codes "plan" ∷ codes "-h" ∷ [])
    ∷ (codes "run" ∷ codes "--help" ∷ []) ∷ (codes "run" ∷ codes "-h" ∷ [])
    ∷ (codes "rehearse" ∷ codes "--help" ∷ []) ∷ (codes "rehearse" ∷ codes "-h" ∷ [])
    ∷ (codes "state" ∷ codes "--help" ∷ []) ∷ (codes "state" ∷ codes "-h" ∷ [])
    ∷ (codes "check" ∷ codes "--help" ∷ []) ∷ (codes "check" ∷ codes "-h" ∷ [])
    ∷ (codes "lint" ∷ codes "--help" ∷ []) ∷ (codes "lint" ∷ codes "-h" ∷ [])
    ∷ (codes "explain" ∷ codes "--help" ∷ []) ∷ (codes "explain" ∷ codes "-h" ∷ []) ∷ []

-- the words are none of these lines
abbrev pub IsNoneOf : List Word → List (List Word) → Type 0
IsNoneOf words [] = ⊤
IsNoneOf words (line ∷ lines) = (words ≢ line) × IsNoneOf words lines

-- the words are a bad line that a text of clap's explains, which is none that is asked for
pub record Explains (words : List Word) (message : Message) : Type 0 where
  pub unasked : IsAskedFor (messages.kind_of message) → ⊥
  pub text : IsTextFor words message

-- the words may be refused so: no command but for want of memory, which no line without words takes, and no request for a
-- text as a bad line. A bad line is explained by clap, but for one that clap would take.
abbrev pub Refuses : List Word → LineFault → Type 0
Refuses words Memory = is_empty words ≡ false
Refuses words (BadLine message) = (is_command words ≡ false) × IsNoneOf words requests × Explains words message
Refuses words (Apart clash) = ⊥
Refuses words Unexplained = (is_command words ≡ false) × IsNoneOf words requests × (fault_of rollout words ≡ [])

-- the same, where the words hold options that don't go together: that is told where clap would take them
abbrev pub RefusesWith : Option OptionConflict → List Word → LineFault → Type 0
RefusesWith None words fault = Refuses words fault
RefusesWith (Some clash) words Memory = Refuses words Memory
RefusesWith (Some clash) words (BadLine message) = Refuses words (BadLine message)
RefusesWith (Some clash) words (Apart other) = Refuses words Unexplained × (other ≡ clash)
RefusesWith (Some clash) words Unexplained = ⊥

-- a line with its options may be refused so
abbrev pub RefusesLine : List Word → LineFault → Type 0
RefusesLine words fault = RefusesWith (clash_in words) (plain words) fault
