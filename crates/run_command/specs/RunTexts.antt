-- What `run` writes of the texts of an inventory and a playbook.
use Rattle.std.specs.Prelude.{◌≡◌, ℕ, Bool, List, [], Option}
use Rattle.std.specs.Io.KnownBytes.{Keeps}
use Rattle.domains.specs.FleetViews.{FleetView}
use Rattle.fleet_states.specs.declared.status.Status.{Status}
use Rattle.host_vars.specs.declared.vars.Vars.{Vars}
use Rattle.host_track.specs.Endings.{Ending}
use Rattle.json_output.specs.declared.form.Form.{Form}
use Rattle.play_model.specs.declared.play.Play.{Play}
use Rattle.event_log.specs.Events.{Event}
use Rattle.event_log.specs.Told.{Work}
use Rattle.roll_run.specs.declared.run.Run.{Run}
use Rattle.roll_run.specs.declared.fault.RunFault.{RunFault}
use Rattle.roll_run.specs.Plays.{AreBroken, AreRuns, AreSafeRolls}
use Rattle.roll_run.specs.Runs.{MayBreak}
use Rattle.run_command.specs.Inputs.{AreInputs, RefusesTexts}
use Rattle.run_command.specs.Recaps.{are_several, broken_text, runs_text}
use Rattle.run_command.specs.Writings.{IsFaultOfRuns, WritesRuns}
use Rattle.run_command.specs.declared.end.RunEnd.{RunEnd}
use Rattle.run_command.specs.declared.fault.RunTextFault.{RunTextFault}
use Rattle.run_command.specs.declared.fault.RunTextFault.TheVariants.{Refused, Memory, Broken, Write}

-- runs of the plays that both texts say, with so many workers, in which each program ends in a way that may be told of it; and their logs
pub record AreRunsIn (may : Work → Ending → Type 0) (inventory playbook : List ℕ) (forks : ℕ) (fleet : FleetView) (plays : List Play) (runs : List Run) (logs : List (List Event)) : Type 0 where
  pub vars : List Vars
  pub statuses : List Status
  pub inputs : AreInputs inventory playbook fleet vars plays statuses
  pub runs_are : AreRuns may fleet forks plays statuses vars runs logs

-- the same, of which a fault broke the last one off
pub record AreBrokenIn (may : Work → Ending → Type 0) (inventory playbook : List ℕ) (forks : ℕ) (fleet : FleetView) (plays : List Play) (done : List Run) (last : RunFault) (logs : List (List Event)) : Type 0 where
  pub vars : List Vars
  pub statuses : List Status
  pub inputs : AreInputs inventory playbook fleet vars plays statuses
  pub broken : AreBroken may fleet forks plays statuses vars done last logs

-- the text is the recaps of such runs in this form
pub record IsRecap (form : Form) (may : Work → Ending → Type 0) (inventory playbook : List ℕ) (forks : ℕ) (runs : List Run) (logs : List (List Event)) (text : List ℕ) : Type 0 where
  pub fleet : FleetView
  pub plays : List Play
  pub are : AreRunsIn may inventory playbook forks fleet plays runs logs
  pub text_is : text ≡ runs_text form fleet (are_several plays) runs

-- the text is the recaps of such runs that a fault broke off
pub record IsBrokenRecap (form : Form) (may : Work → Ending → Type 0) (inventory playbook : List ℕ) (forks : ℕ) (done : List Run) (last : RunFault) (logs : List (List Event)) (text : List ℕ) : Type 0 where
  pub fleet : FleetView
  pub plays : List Play
  pub are : AreBrokenIn may inventory playbook forks fleet plays done last logs
  pub text_is : text ≡ broken_text form fleet (are_several plays) done last

-- the recaps of runs of the plays went out, and nothing else; the end is that of the last of them; and just these were started
abbrev pub WritesRecap : Form → (Work → Ending → Type 0) → List ℕ → List ℕ → ℕ → Option (List ℕ) → Option (List ℕ) → RunEnd → List (List Event) → Type 0
WritesRecap form may inventory playbook forks old new end logs = WritesRuns (IsRecap form may inventory playbook forks) old new end logs

-- what the fault says is true: a text is refused, or memory was wanting, and nothing was started and nothing went out; or it is true of runs of the plays
abbrev pub IsTrueFault : Form → (Work → Ending → Type 0) → List ℕ → List ℕ → ℕ → Option (List ℕ) → Option (List ℕ) → RunTextFault → List (List Event) → Type 0
IsTrueFault form may inventory playbook forks old new (Refused fault) logs = RefusesTexts inventory playbook (Refused fault) × Keeps old new × (logs ≡ [])
IsTrueFault form may inventory playbook forks old new Memory logs = Keeps old new × (logs ≡ [])
IsTrueFault form may inventory playbook forks old new (Broken why) logs =
    IsFaultOfRuns (IsRecap form may inventory playbook forks) (IsBrokenRecap form may inventory playbook forks) old new (Broken why) logs
IsTrueFault form may inventory playbook forks old new (Write fault) logs =
    IsFaultOfRuns (IsRecap form may inventory playbook forks) (IsBrokenRecap form may inventory playbook forks) old new (Write fault) logs

-- these are the logs of rolls of the first of the plays that both texts say, by so many workers, on the fleet that they say, which begins as they say: each behind
-- the one before it, and at no moment of any of them is a group over its limit
pub record AreSafeIn (may : Work → Ending → Type 0) (inventory playbook : List ℕ) (forks : ℕ) (logs : List (List Event)) : Type 0 where
  pub fleet : FleetView
  pub vars : List Vars
  pub plays : List Play
  pub statuses : List Status
  pub inputs : AreInputs inventory playbook fleet vars plays statuses
  pub rolls : AreSafeRolls may fleet forks plays statuses vars logs

-- a run is told to have been asked to end only where it may be, and that a batch was refused only where one may be
abbrev pub MayBreakText : Bool → Bool → RunTextFault → Type 0
MayBreakText asks refuses (Refused fault) = Unit {0}
MayBreakText asks refuses Memory = Unit {0}
MayBreakText asks refuses (Broken why) = MayBreak asks refuses why
MayBreakText asks refuses (Write fault) = Unit {0}
