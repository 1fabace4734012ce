-- How the program ends: its status, and what it reports on standard error.
use Rattle.std.specs.Prelude.{◌≡◌, ℕ, ◌==◌, Bool, true, false, ◌||◌, if◌then◌else◌, List, [], ◌++◌, Option, Some, None, option_map, Result, Ok, Err, codes, string_bytes, ⊤}
use Rattle.std.specs.Io.KnownBytes.{Keeps}
use Rattle.bounded_io.specs.Sending.{SendsText}
use Rattle.bounded_io.specs.declared.write_fault.WriteFault.{WriteFault}
use Rattle.rollout.specs.FaultLines.{line_text}
use Rattle.hints.specs.Lines.{IsHelp}
use Rattle.json_output.specs.declared.form.Form.{Form}
use Rattle.json_output.specs.declared.form.Form.TheVariants.{Plain, Json}
use Rattle.rollout.specs.Explanations.{explanation_in}
use Rattle.rollout.specs.FaultRows.{number_of, row_of}
use Rattle.rollout.specs.declared.ending.Reporting as declared
use Rattle.rollout.specs.declared.fault.Fault.{Fault}
use Rattle.rollout.specs.declared.status.Status.{Status}
use Rattle.rollout.specs.declared.status.Status.TheVariants as status

-- what is reported of a fault
abbrev pub fault_text : Form → Fault → List ℕ
fault_text form fault = line_text form (number_of fault) (row_of fault) ++ explanation_in form fault

-- `  HELP`, where there is any: a line for people
abbrev pub help_text : Form → Option (List ℕ) → List ℕ
help_text Plain None = []
help_text Plain (Some help) = codes "  " ++ (help ++ codes "\n")
help_text Json help = []

-- how it is reported: in which form, and what is said behind it of what to do
pub record Reporting : Type 0 where
  pub form : Form
  pub help : Option (List ℕ)

-- the same as the program has it
abbrev pub reporting_as : declared.Reporting → Reporting
reporting_as reporting = record { form = reporting.form; help = option_map string_bytes reporting.help }

-- the form that is asked for
abbrev pub form_of : Bool → Form
form_of true = Json
form_of false = Plain

-- a fault alone, for people
abbrev pub plain_reporting : Reporting
plain_reporting = record { form = Plain; help = None }

-- a line helps only where it may
abbrev pub MayHelp : Bool → Option (List ℕ) → Type 0
MayHelp may None = ⊤
MayHelp may (Some help) = (may ≡ true) × IsHelp help

-- a run that ended before its plays did: its journal could not be written, or its stop file was there
abbrev pub ends_early : ℕ → Bool
ends_early number = number == 911 || number == 917

-- the status of what has a fault's number
abbrev pub status_of_number : Option ℕ → Status
status_of_number (Some number) = if ends_early number then status.BrokenOff else status.Refused
status_of_number None = status.Memory

-- want of memory is kept apart from what is refused
abbrev pub status_of_fault : Fault → Status
status_of_fault fault = status_of_number (number_of fault)

abbrev pub status_of : Result Status Fault → Status
status_of (Ok status) = status
status_of (Err fault) = status_of_fault fault

-- the text went out, or as many of its first bytes as the writer took
pub record GoesOut (old new : Option (List ℕ)) (text : List ℕ) : Type 0 where
  pub outcome : Result (Unit {0}) WriteFault
  pub sent : SendsText old new text outcome

-- of what was done nothing is reported, and of a fault its line, and the line that helps
abbrev pub Reports : Reporting → Result Status Fault → Option (List ℕ) → Option (List ℕ) → Type 0
Reports reporting (Ok status) old new = Keeps old new
Reports reporting (Err fault) old new = GoesOut old new (fault_text reporting.form fault ++ help_text reporting.form reporting.help)
