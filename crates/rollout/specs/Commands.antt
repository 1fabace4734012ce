-- What each command does with standard input and standard output.
use Rattle.std.specs.Prelude.{◌≡◌, ℕ, List, Option, Result, Ok, Err}
use Rattle.std.specs.Io.KnownBytes.{Appends, Keeps}
use Rattle.bounded_io.specs.Sending.{SendsFirst}
use Rattle.command_line.specs.declared.command.Source.{Source}
use Rattle.rollout.specs.Inputs.{IsTextOf, IsUnreadable}
use Rattle.rollout.specs.Systems.{Sources}
use Rattle.rollout.specs.LimitsText.{WritesTable, IsTrueFault}
use Rattle.rollout.specs.declared.fault.Fault.{Fault}
use Rattle.rollout.specs.declared.fault.Fault.TheVariants.{Input, Write}
use Rattle.rollout.specs.declared.status.Status.{Status}
use Rattle.rollout.specs.declared.status.Status.TheVariants.{Done}

-- the source's text was read, and the table of its limits went out
pub record ShowsTable (sources : Sources) (source : Source) (input_old input_new out_old out_new : Option (List ℕ)) : Type 0 where
  pub text : List ℕ
  pub is_text : IsTextOf sources source input_old input_new text
  pub table : WritesTable text out_old out_new

-- the source's text was read, and the fault is true of it
pub record RefusesText (sources : Sources) (source : Source) (input_old input_new out_old out_new : Option (List ℕ)) (fault : Fault) : Type 0 where
  pub text : List ℕ
  pub is_text : IsTextOf sources source input_old input_new text
  pub is_true : IsTrueFault text out_old out_new fault

abbrev pub FailsToTabulate : Sources → Source → Option (List ℕ) → Option (List ℕ) → Option (List ℕ) → Option (List ℕ) → Fault → Type 0
FailsToTabulate sources source input_old input_new out_old out_new (Input named fault) =
    IsUnreadable sources source input_old input_new (Input named fault) × Keeps out_old out_new
FailsToTabulate sources source input_old input_new out_old out_new fault =
    RefusesText sources source input_old input_new out_old out_new fault

-- the command `limits`
abbrev pub TabulatesLimits : Sources → Source → Option (List ℕ) → Option (List ℕ) → Option (List ℕ) → Option (List ℕ) → Result Status Fault → Type 0
TabulatesLimits sources source input_old input_new out_old out_new (Ok status) =
    (status ≡ Done) × ShowsTable sources source input_old input_new out_old out_new
TabulatesLimits sources source input_old input_new out_old out_new (Err fault) =
    FailsToTabulate sources source input_old input_new out_old out_new fault

-- the text went out whole, or broke off where the fault says
abbrev pub Prints : List ℕ → Option (List ℕ) → Option (List ℕ) → Result Status Fault → Type 0
Prints text old new (Ok status) = (status ≡ Done) × Appends old new text
Prints text old new (Err (Write fault)) = SendsFirst old new text fault.written
Prints text old new (Err fault) = ⊥
