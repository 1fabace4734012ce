-- How the recaps of runs go out, whatever the runs are.
use Rattle.std.specs.Prelude.{◌≡◌, ◌⊎◌, ℕ, Bool, List, Option, Result, Ok, Err}
use Rattle.std.specs.Io.KnownBytes.{Appends}
use Rattle.bounded_io.specs.Sending.{SendsFirst}
use Rattle.domains.specs.FleetViews.{FleetView}
use Rattle.event_log.specs.Events.{Event}
use Rattle.json_output.specs.declared.form.Form.{Form}
use Rattle.roll_run.specs.declared.run.Run.{Run}
use Rattle.roll_run.specs.declared.fault.Break.{Break}
use Rattle.roll_run.specs.declared.fault.RunFault.{RunFault}
use Rattle.run_command.specs.Ends.{IsEndOf}
use Rattle.run_command.specs.Recaps.{broken_text_from, runs_text_from}
use Rattle.run_command.specs.declared.end.RunEnd.{RunEnd}
use Rattle.run_command.specs.declared.fault.RunTextFault.{RunTextFault}
use Rattle.run_command.specs.declared.fault.RunTextFault.TheVariants.{Refused, Memory, Broken, Write}

-- the recaps of such runs went out, and nothing else; the end is that of the last of them; and just these were started
pub record WritesRuns (Is : List Run → List (List Event) → List ℕ → Type 0) (old new : Option (List ℕ)) (end : RunEnd) (logs : List (List Event)) : Type 0 where
  pub runs : List Run
  pub text : List ℕ
  pub is : Is runs logs text
  pub written : Appends old new text
  pub ends : IsEndOf runs end

-- the recaps of such runs broke off after so many bytes; just these were started
pub record BreaksRuns (Is : List Run → List (List Event) → List ℕ → Type 0) (old new : Option (List ℕ)) (count : ℕ) (logs : List (List Event)) : Type 0 where
  pub runs : List Run
  pub text : List ℕ
  pub is : Is runs logs text
  pub written : SendsFirst old new text count

-- such runs were broken off, and the recaps of what they came to went out, and nothing else; just these were started
pub record WritesBroken (Is : List Run → RunFault → List (List Event) → List ℕ → Type 0) (old new : Option (List ℕ)) (why : Break) (logs : List (List Event)) : Type 0 where
  pub done : List Run
  pub last : RunFault
  pub text : List ℕ
  pub is : Is done last logs text
  pub written : Appends old new text
  pub why_is : why ≡ last.why

-- such runs were broken off, and the recaps of what they came to broke off after so many bytes; just these were started
pub record BreaksBroken (Is : List Run → RunFault → List (List Event) → List ℕ → Type 0) (old new : Option (List ℕ)) (count : ℕ) (logs : List (List Event)) : Type 0 where
  pub done : List Run
  pub last : RunFault
  pub text : List ℕ
  pub is : Is done last logs text
  pub written : SendsFirst old new text count

-- what the fault says of such runs is true: they were broken off; or their text broke off where the fault says. The logs are those of all that was started
abbrev pub IsFaultOfRuns : (List Run → List (List Event) → List ℕ → Type 0) → (List Run → RunFault → List (List Event) → List ℕ → Type 0) → Option (List ℕ) → Option (List ℕ) → RunTextFault → List (List Event) → Type 0
IsFaultOfRuns Is IsBroken old new (Refused fault) logs = ⊥
IsFaultOfRuns Is IsBroken old new Memory logs = ⊥
IsFaultOfRuns Is IsBroken old new (Broken why) logs = WritesBroken IsBroken old new why logs
IsFaultOfRuns Is IsBroken old new (Write fault) logs = BreaksRuns Is old new fault.written logs ⊎ BreaksBroken IsBroken old new fault.written logs

-- the recaps of runs that came to their ends went out, or broke off
abbrev pub TellsRuns : Form → ℕ → FleetView → Bool → List Run → Option (List ℕ) → Option (List ℕ) → Result RunEnd RunTextFault → Type 0
TellsRuns form before fleet several runs old new (Ok end) = IsEndOf runs end × Appends old new (runs_text_from form before fleet several runs)
TellsRuns form before fleet several runs old new (Err (Write fault)) = SendsFirst old new (runs_text_from form before fleet several runs) fault.written
TellsRuns form before fleet several runs old new (Err (Refused fault)) = ⊥
TellsRuns form before fleet several runs old new (Err Memory) = ⊥
TellsRuns form before fleet several runs old new (Err (Broken why)) = ⊥

-- the recaps of runs of which a fault broke the last one off went out, or broke off
abbrev pub TellsBroken : Form → ℕ → FleetView → Bool → List Run → RunFault → Option (List ℕ) → Option (List ℕ) → RunTextFault → Type 0
TellsBroken form before fleet several done last old new (Broken why) = (why ≡ last.why) × Appends old new (broken_text_from form before fleet several done last)
TellsBroken form before fleet several done last old new (Write fault) = SendsFirst old new (broken_text_from form before fleet several done last) fault.written
TellsBroken form before fleet several done last old new (Refused fault) = ⊥
TellsBroken form before fleet several done last old new Memory = ⊥
