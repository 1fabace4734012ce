-- The statuses of a fleet's hosts, and the resting shares.
use Rattle.std.specs.Prelude.{◌≡◌, ℕ, Bool, false, cond, List, length, slice_set, slice_index_or}
use Rattle.fleet_index.specs.NumberLists.{has_number}
use Rattle.domains.specs.FleetViews.{FleetView}
use Rattle.fleet_states.specs.declared.status.Status.{Status}
use Rattle.fleet_states.specs.Statuses.{changed}

-- a fleet, the statuses of its hosts, and whether each host's share rests
pub record RosterView : Type 0 where
  pub fleet : FleetView
  pub statuses : List Status
  pub seated : List Bool

abbrev pub seated_at : List Bool → ℕ → Bool
seated_at seated host = slice_index_or seated host false

-- the same except for one host
abbrev pub with_host : RosterView → ℕ → Status → Bool → RosterView
with_host roster host status seat =
    record roster { statuses = slice_set roster.statuses host status; seated = slice_set roster.seated host seat }

-- the same except for some hosts
pub record HasChanged (old new : RosterView) (hosts : List ℕ) (change : Status → Status) (seat : Bool) : Type 0 where
  pub fleet : new.fleet ≡ old.fleet
  pub statuses : new.statuses ≡ changed change hosts old.statuses
  pub len : length new.seated ≡ length old.seated
  pub seats : (host : ℕ) → seated_at new.seated host ≡ cond (has_number host hosts) seat (seated_at old.seated host)

abbrev pub NobodyRests : RosterView → Type 0
NobodyRests roster = (host : ℕ) → seated_at roster.seated host ≡ false
