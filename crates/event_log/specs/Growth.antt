-- A log and its continuations.
use Rattle.std.specs.Prelude.{◌≡◌, ℕ, ◌≤◌, Bool, true, false, List, [], ◌∷◌, ◌++◌, count_by}
use Rattle.std.specs.List.{list_all}
use Rattle.fleet_index.specs.NumberLists.{has_number}
use Rattle.fleet_states.specs.Statuses.{is_waiting, status_at}
use Rattle.host_track.specs.Endings.{Ending}
use Rattle.event_log.specs.Rolls.{Roll}
use Rattle.event_log.specs.Events.{Event, set_aside, opened, claimed, reported, passed, closed, is_inside, is_work}
use Rattle.event_log.specs.States.{State, between, working, start_state}
use Rattle.event_log.specs.Logs.{Allowed, IsLegal, end_state, next}
use Rattle.event_log.specs.Columns.{Columns, Tells}
use Rattle.event_log.specs.Changes.{IsLeft}

-- the state after one more event
abbrev pub StateAfterEvent : Type 0
StateAfterEvent =
    (roll : Roll) (log : List Event) (event : Event) → end_state roll (log ++ event ∷ []) ≡ next roll (end_state roll log) event

-- a legal log can continue with each event that is allowed at its end
abbrev pub LegalLogsGrow : Type 0
LegalLogsGrow =
    (roll : Roll) (log : List Event) (event : Event) → IsLegal roll (start_state roll) log → Allowed roll (end_state roll log) event → IsLegal roll (start_state roll) (log ++ event ∷ [])

-- a prefix of a legal log is legal
abbrev pub BeginningsAreLegal : Type 0
BeginningsAreLegal =
    (roll : Roll) (log more : List Event) → IsLegal roll (start_state roll) (log ++ more) → IsLegal roll (start_state roll) log

-- columns that match a log match each prefix of it
abbrev pub PrefixKeepsColumns : Type 0
PrefixKeepsColumns =
    (columns : Columns) (roll : Roll) (log more : List Event) → Tells columns roll (log ++ more) → Tells columns roll log

-- the batch and the statuses at its opening are the same, and all hosts outside it are as they were
pub record IsWithinBatch (before after : State) : Type 0 where
  pub batch : after.batch ≡ before.batch
  pub opening : after.opening ≡ before.opening
  pub others : (host : ℕ) → has_number host before.batch ≡ false → IsLeft before after host

-- likewise, and the batch is at the same step, or has ended in the same way
pub record IsWithinStep (before after : State) : Type 0 where
  pub phase : after.phase ≡ before.phase
  pub inside : IsWithinBatch before after

-- claims and reports leave the batch at its step, and all other hosts as they are
abbrev pub WorkStaysWithinStep : Type 0
WorkStaysWithinStep =
    (roll : Roll) (log more : List Event) → IsLegal roll (start_state roll) (log ++ more) → list_all is_work more ≡ true → IsWithinStep (end_state roll log) (end_state roll (log ++ more))

-- claims, reports and passed steps leave the opened batch open, and all other hosts as they were at its opening
abbrev pub BatchesStayTheirs : Type 0
BatchesStayTheirs =
    (roll : Roll) (log more : List Event) (batch : List ℕ) → IsLegal roll (start_state roll) (log ++ opened batch ∷ more) → list_all is_inside more ≡ true
    → IsWithinBatch (next roll (end_state roll log) (opened batch)) (end_state roll (log ++ opened batch ∷ more))

-- if no batch is open, no host is in one
abbrev pub ClosedBatchIsEmpty : Type 0
ClosedBatchIsEmpty =
    (roll : Roll) (log : List Event) → IsLegal roll (start_state roll) log → (end_state roll log).phase ≡ between → (end_state roll log).batch ≡ []

-- if no batch is at a step, no claim is outstanding
abbrev pub NoClaimOutsideSteps : Type 0
NoClaimOutsideSteps =
    (roll : Roll) (log : List Event) → IsLegal roll (start_state roll) log → ((step : ℕ) → (end_state roll log).phase ≡ working step → ⊥) → (end_state roll log).out ≡ []

-- the event opens a batch with the host
abbrev pub is_opening_of : ℕ → Event → Bool
is_opening_of host (set_aside hosts) = false
is_opening_of host (opened batch) = has_number host batch
is_opening_of host (claimed other step) = false
is_opening_of host (reported other step ending) = false
is_opening_of host (passed step) = false
is_opening_of host closed = false

-- each host is in at most one batch of a play
abbrev pub NoHostIsOpenedTwice : Type 0
NoHostIsOpenedTwice =
    (roll : Roll) (log : List Event) (host : ℕ) → IsLegal roll (start_state roll) log → count_by (is_opening_of host) log ≤ 1

-- a host that was in no batch has no rows
abbrev pub HostsOfNoBatchHaveNoRows : Type 0
HostsOfNoBatchHaveNoRows =
    (roll : Roll) (log : List Event) (host : ℕ) → IsLegal roll (start_state roll) log → count_by (is_opening_of host) log ≡ 0 → (end_state roll log).rows host ≡ []

-- a host that no longer waits and is in no open batch stays as it is to the end of the log
abbrev pub HostsBehindTheirBatchStay : Type 0
HostsBehindTheirBatchStay =
    (roll : Roll) (log more : List Event) (host : ℕ) → IsLegal roll (start_state roll) (log ++ more)
    → is_waiting (status_at (end_state roll log).statuses host) ≡ false → has_number host (end_state roll log).batch ≡ false
    → IsLeft (end_state roll log) (end_state roll (log ++ more)) host
