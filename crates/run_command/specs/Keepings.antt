-- What is kept of runs.
use Rattle.std.specs.Prelude.{◌≡◌, ◌⊎◌, ℕ, Some, List, [], length, map}
use Rattle.domains.specs.FleetViews.{FleetView}
use Rattle.fleet_states.specs.declared.status.Status.{Status}
use Rattle.host_vars.specs.declared.vars.Vars.{Vars}
use Rattle.play_model.specs.declared.play.Play.{Play}
use Rattle.play_forecast.specs.declared.end.End.{End}
use Rattle.event_log.specs.Events.{Event}
use Rattle.roll_run.specs.Journals.{AreKept, AreKeptAhead, JournalEntry, heading}
use Rattle.run_command.specs.Inputs.{AreInputs}

-- of the runs of these plays with these logs, on this fleet, all was kept that there is to keep, behind how many plays there are, and nothing else
pub record KeepsFrom {K : Type 0} (keeps : K → K → FleetView → JournalEntry → Type 0) (fleet : FleetView) (plays : List Play) (before after : K) (logs : List (List Event)) : Type 0 where
  pub begun : K
  pub begins : keeps before begun fleet (heading (length plays))
  pub ends : List End
  pub kept : AreKept keeps fleet begun after (map Some ends) logs

-- the same, and at most one entry more
pub record KeepsAheadFrom {K : Type 0} (keeps : K → K → FleetView → JournalEntry → Type 0) (fleet : FleetView) (plays : List Play) (before after : K) (logs : List (List Event)) : Type 0 where
  pub begun : K
  pub begins : keeps before begun fleet (heading (length plays))
  pub ends : List End
  pub ahead : AreKeptAhead keeps fleet begun after ends logs

-- the same of the runs of the plays that two texts say, on the fleet of the inventory
pub record KeepsRuns {K : Type 0} (keeps : K → K → FleetView → JournalEntry → Type 0) (inventory playbook : List ℕ) (before after : K) (logs : List (List Event)) : Type 0 where
  pub fleet : FleetView
  pub vars : List Vars
  pub plays : List Play
  pub statuses : List Status
  pub inputs : AreInputs inventory playbook fleet vars plays statuses
  pub keeps_from : KeepsFrom keeps fleet plays before after logs

pub record KeepsAheadOf {K : Type 0} (keeps : K → K → FleetView → JournalEntry → Type 0) (inventory playbook : List ℕ) (before after : K) (logs : List (List Event)) : Type 0 where
  pub fleet : FleetView
  pub vars : List Vars
  pub plays : List Play
  pub statuses : List Status
  pub inputs : AreInputs inventory playbook fleet vars plays statuses
  pub keeps_from : KeepsAheadFrom keeps fleet plays before after logs

-- where nothing was started, nothing was kept
abbrev pub KeepsBroken : {K : Type 0} → (K → K → FleetView → JournalEntry → Type 0) → List ℕ → List ℕ → K → K → List (List Event) → Type 0
KeepsBroken keeps inventory playbook before after logs =
    ((logs ≡ []) × (after ≡ before)) ⊎ KeepsAheadOf keeps inventory playbook before after logs
