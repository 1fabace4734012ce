-- What holds of every recap.
use Rattle.std.specs.Prelude.{◌≡◌, ℕ, List, Option}
use Rattle.domains.specs.FleetViews.{FleetView}
use Rattle.event_log.specs.Columns.{Columns, gives}
use Rattle.event_log.specs.Events.{Event}
use Rattle.host_track.specs.Endings.{Ending}
use Rattle.event_log.specs.Told.{Work}
use Rattle.json_output.specs.declared.form.Form.{Form}
use Rattle.play_model.specs.declared.play.Play.{Play}
use Rattle.roll_run.specs.declared.run.Run.{Run}
use Rattle.roll_run.specs.Files.{TellTheirs}
use Rattle.roll_run.specs.declared.fault.RunFault.{RunFault}
use Rattle.run_command.specs.Beginnings.{AreSafeBehind, IsTrueFaultFrom, WritesFrom}
use Rattle.run_command.specs.RunTexts.{AreSafeIn, IsBrokenRecap, IsRecap}
use Rattle.run_command.specs.declared.beginning.Beginning.{Beginning}
use Rattle.run_command.specs.declared.end.RunEnd.{RunEnd}
use Rattle.run_command.specs.declared.fault.RunTextFault.{RunTextFault}

-- the recaps of two runs of the same texts, in which programs end as the same columns say, are one text in each form, however many workers there were
abbrev pub OneRecap : Type 0
OneRecap =
    (form : Form) (columns : Columns) (inventory playbook text other : List ℕ) (forks more : ℕ) (runs others : List Run) (logs other_logs : List (List Event)) → IsRecap form (gives columns) inventory playbook forks runs logs text
    → IsRecap form (gives columns) inventory playbook more others other_logs other → text ≡ other

-- the text is the recaps of such runs, and the log of each run tells the columns of its play: those of one play bind no other
pub record IsRecapBy (form : Form) (columns : ℕ → Columns) (may : Work → Ending → Type 0) (inventory playbook : List ℕ) (forks : ℕ) (runs : List Run) (logs : List (List Event)) (text : List ℕ) : Type 0 where
  pub is : IsRecap form may inventory playbook forks runs logs text
  pub tell : TellTheirs columns is.fleet forks is.plays is.are.statuses is.are.vars runs logs

-- the recaps of two runs of the same texts, in each of whose plays programs end as the same columns say, are one text in each form
abbrev pub OneRecapByPlays : (Work → Ending → Type 0) → (Work → Ending → Type 0) → Type 0
OneRecapByPlays may might =
    (form : Form) (columns : ℕ → Columns) (inventory playbook text other : List ℕ) (forks more : ℕ) (runs others : List Run) (logs other_logs : List (List Event)) → IsRecapBy form columns may inventory playbook forks runs logs text
    → IsRecapBy form columns might inventory playbook more others other_logs other → text ≡ other

-- the logs of the runs that a recap tells of are safe
abbrev pub RecapsAreOfSafeRolls : (Work → Ending → Type 0) → Type 0
RecapsAreOfSafeRolls may =
    (form : Form) (inventory playbook text : List ℕ) (forks : ℕ) (runs : List Run) (logs : List (List Event)) → IsRecap form may inventory playbook forks runs logs text → AreSafeIn may inventory playbook forks logs

-- and so are those of runs that were broken off
abbrev pub BrokenRecapsAreOfSafeRolls : (Work → Ending → Type 0) → Type 0
BrokenRecapsAreOfSafeRolls may =
    (form : Form) (inventory playbook text : List ℕ) (forks : ℕ) (done : List Run) (last : RunFault) (logs : List (List Event)) → IsBrokenRecap form may inventory playbook forks done last logs text → AreSafeIn may inventory playbook forks logs

-- the logs of runs that began in the midst of a file and whose recaps went out are safe
abbrev pub RunsFromAreOfSafeRolls : (Work → Ending → Type 0) → Type 0
RunsFromAreOfSafeRolls may =
    (form : Form) (fleet : FleetView) (forks : ℕ) (plays : List Play) (beginning : Beginning) (old new : Option (List ℕ)) (end : RunEnd) (logs : List (List Event)) → WritesFrom form may fleet forks plays beginning old new end logs
    → AreSafeBehind may fleet forks plays beginning logs

-- and so are those of which a true fault tells
abbrev pub FaultsFromAreOfSafeRolls : (Work → Ending → Type 0) → Type 0
FaultsFromAreOfSafeRolls may =
    (form : Form) (fleet : FleetView) (forks : ℕ) (plays : List Play) (beginning : Beginning) (old new : Option (List ℕ)) (fault : RunTextFault) (logs : List (List Event)) → IsTrueFaultFrom form may fleet forks plays beginning old new fault logs
    → AreSafeBehind may fleet forks plays beginning logs
