-- The statuses with which a play begins.
use Rattle.std.specs.Prelude.{◌≡◌, ℕ, Bool, true, false, List, map, length}
use Rattle.std.specs.List.{range_with_len}
use Rattle.fleet_index.specs.NumberLists.{has_number}
use Rattle.domains.specs.FleetViews.{FleetView}
use Rattle.fleet_states.specs.declared.status.Status.{Status}
use Rattle.fleet_states.specs.declared.status.Status.TheVariants.{Idle, Waiting, Running, Updated, Failed, Halted, Off, Held}
use Rattle.fleet_states.specs.Statuses.{NobodyRuns, status_at}
use Rattle.fleet_states.specs.Groups.{IsSafe, groups_of}

-- what a plan may be made of: one status a host, nobody runs, no group is over its limit
pub record IsReady (fleet : FleetView) (statuses : List Status) : Type 0 where
  pub all_hosts : length statuses ≡ length fleet.hosts
  pub at_rest : NobodyRuns statuses
  pub safe : IsSafe (groups_of fleet) statuses

-- waiting where the play is for the host, else idle
abbrev pub targeted_status : Bool → Status
targeted_status true = Waiting
targeted_status false = Idle

-- who failed, was halted or is off stays so in a later play; whoever else it is for waits, and the others are idle
abbrev pub restart_status : Status → Bool → Status
restart_status Failed targeted = Failed
restart_status Halted targeted = Halted
restart_status Off targeted = Off
restart_status Idle targeted = targeted_status targeted
restart_status Waiting targeted = targeted_status targeted
restart_status Running targeted = targeted_status targeted
restart_status Updated targeted = targeted_status targeted
restart_status Held targeted = targeted_status targeted

-- the statuses with which a later play for these hosts begins
abbrev pub restart_statuses : List Status → List ℕ → List Status
restart_statuses statuses target =
    map (λ host. restart_status (status_at statuses host) (has_number host target)) (range_with_len 0 (length statuses))
