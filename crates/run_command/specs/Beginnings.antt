-- What is written of runs that begin in the midst of a file of plays.
use Rattle.std.specs.Prelude.{◌≡◌, ℕ, List, Option, drop}
use Rattle.domains.specs.FleetViews.{FleetView}
use Rattle.host_track.specs.Endings.{Ending}
use Rattle.json_output.specs.declared.form.Form.{Form}
use Rattle.play_model.specs.declared.play.Play.{Play}
use Rattle.event_log.specs.Events.{Event}
use Rattle.event_log.specs.Told.{Work}
use Rattle.roll_run.specs.declared.run.Run.{Run}
use Rattle.roll_run.specs.declared.fault.RunFault.{RunFault}
use Rattle.roll_run.specs.Plays.{AreBroken, AreRuns, AreSafeRolls}
use Rattle.run_command.specs.Recaps.{are_several, broken_text_from, runs_text_from}
use Rattle.run_command.specs.Writings.{IsFaultOfRuns, WritesRuns}
use Rattle.run_command.specs.declared.beginning.Beginning.{Beginning}
use Rattle.run_command.specs.declared.end.RunEnd.{RunEnd}
use Rattle.run_command.specs.declared.fault.RunTextFault.{RunTextFault}

-- the plays of a file that are to run
abbrev pub plays_from : Beginning → List Play → List Play
plays_from beginning plays = drop beginning.plays_before plays

-- the text is the recaps in this form of runs of those plays, with so many workers, in which each program ends in a way that may be told of it; each stands under its number
-- in the file where that has several plays
pub record IsRecapFrom (form : Form) (may : Work → Ending → Type 0) (fleet : FleetView) (forks : ℕ) (plays : List Play) (beginning : Beginning) (runs : List Run) (logs : List (List Event)) (text : List ℕ) : Type 0 where
  pub are : AreRuns may fleet forks (plays_from beginning plays) beginning.start.statuses.items beginning.start.vars.items runs logs
  pub text_is : text ≡ runs_text_from form beginning.plays_before fleet (are_several plays) runs

-- the same of runs of which a fault broke the last one off
pub record IsBrokenRecapFrom (form : Form) (may : Work → Ending → Type 0) (fleet : FleetView) (forks : ℕ) (plays : List Play) (beginning : Beginning) (done : List Run) (last : RunFault) (logs : List (List Event)) (text : List ℕ) : Type 0 where
  pub are : AreBroken may fleet forks (plays_from beginning plays) beginning.start.statuses.items beginning.start.vars.items done last logs
  pub text_is : text ≡ broken_text_from form beginning.plays_before fleet (are_several plays) done last

-- these recaps went out, and nothing else; the end is that of the last run; and just these were started
abbrev pub WritesFrom : Form → (Work → Ending → Type 0) → FleetView → ℕ → List Play → Beginning → Option (List ℕ) → Option (List ℕ) → RunEnd → List (List Event) → Type 0
WritesFrom form may fleet forks plays beginning old new end logs = WritesRuns (IsRecapFrom form may fleet forks plays beginning) old new end logs

-- what the fault says of such runs is true
abbrev pub IsTrueFaultFrom : Form → (Work → Ending → Type 0) → FleetView → ℕ → List Play → Beginning → Option (List ℕ) → Option (List ℕ) → RunTextFault → List (List Event) → Type 0
IsTrueFaultFrom form may fleet forks plays beginning old new fault logs =
    IsFaultOfRuns (IsRecapFrom form may fleet forks plays beginning) (IsBrokenRecapFrom form may fleet forks plays beginning) old new fault logs

-- these are the logs of rolls of the first of those plays, from how they begin: at no moment of any of them is a group over its limit
abbrev pub AreSafeBehind : (Work → Ending → Type 0) → FleetView → ℕ → List Play → Beginning → List (List Event) → Type 0
AreSafeBehind may fleet forks plays beginning logs =
    AreSafeRolls may fleet forks (plays_from beginning plays) beginning.start.statuses.items beginning.start.vars.items logs
