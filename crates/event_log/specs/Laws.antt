-- What holds of every legal log, whoever makes it.
use Rattle.std.specs.Prelude.{◌≡◌, ℕ, ◌≤◌, List, length, take}
use Rattle.fleet_states.specs.Statuses.{NobodyRuns}
use Rattle.fleet_states.specs.Groups.{IsSafe}
use Rattle.event_log.specs.Rolls.{Roll}
use Rattle.event_log.specs.Events.{Event}
use Rattle.event_log.specs.States.{State, between, start_state}
use Rattle.event_log.specs.Logs.{IsLegal, state_after}

-- the state after so many events of a log
abbrev pub front : Roll → List Event → ℕ → State
front roll log n = state_after roll (start_state roll) (take n log)

-- from a safe start no group is over its limit at any front
abbrev pub LegalLogsAreSafe : Type 0
LegalLogsAreSafe =
    (roll : Roll) (log : List Event) → IsSafe roll.groups roll.start → IsLegal roll (start_state roll) log → (n : ℕ) → IsSafe roll.groups (front roll log n).statuses

-- from a start at rest nobody runs at a front where no batch is open
abbrev pub LegalLogsRestBetweenBatches : Type 0
LegalLogsRestBetweenBatches =
    (roll : Roll) (log : List Event) → NobodyRuns roll.start → IsLegal roll (start_state roll) log → (n : ℕ) → (front roll log n).phase ≡ between → NobodyRuns (front roll log n).statuses

-- at no front more claims are out than forks
abbrev pub ForksBoundTheClaims : Type 0
ForksBoundTheClaims =
    (roll : Roll) (log : List Event) → IsLegal roll (start_state roll) log → (n : ℕ) → length (front roll log n).out ≤ roll.forks

-- at no front has a host more rows than its play has steps
abbrev pub RowsAreFew : Type 0
RowsAreFew =
    (roll : Roll) (log : List Event) → IsLegal roll (start_state roll) log → (n host : ℕ) → length ((front roll log n).rows host) ≤ length roll.play.steps.items
