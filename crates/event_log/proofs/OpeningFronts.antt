-- While a batch is open, hosts outside it are as at its opening.
use Rattle.std.proofs.Common.{◌≡◌, ℕ, Bool, true, false, List, [], ◌∷◌, length, set, sym, ap, ◌∙◌, refl, subst}
use Rattle.std.specs.Prelude.{if◌then◌else◌}
use Rattle.std.proofs.lemmas.Bool.{both_ways, ne_eqb}
use Rattle.std.proofs.lemmas.List.{length-set}
use Rattle.fleet_index.specs.NumberLists.{has_number}
use Rattle.fleet_states.specs.declared.status.Status.{Status}
use Rattle.fleet_states.specs.declared.status.Status.TheVariants.{Failed, Held, Running}
use Rattle.fleet_states.specs.Statuses.{status_at}
use Rattle.fleet_states.proofs.StatusLemmas.{length-changed}
use Rattle.host_track.specs.Tracks.{Entry, has_failed}
use Rattle.event_log.specs.Rolls.{Roll}
use Rattle.event_log.specs.Events.{Event, set_aside, opened, claimed, reported, passed, closed}
use Rattle.event_log.specs.States.{State, Phase, between, working, ended, start_state, at_rest, rows_with, with_failure}
use Rattle.event_log.specs.Logs.{Allowed, IsLegal, closed_state, next, state_after}
use Rattle.event_log.specs.Changes.{IsLeft, is_about}
use Rattle.event_log.proofs.ChangeLaws.{events_leave}
use Rattle.event_log.proofs.WorkLemmas.{AtWork, next_at_work, start_at_work}

pub record HasOpening (state : State) : Type 0 where
  pub all : length state.opening ≡ length state.statuses
  pub others : (state.phase ≡ between → ⊥) → (host : ℕ) → has_number host state.batch ≡ false → status_at state.statuses host ≡ status_at state.opening host

start_opening : (roll : Roll) → HasOpening (start_state roll)
start_opening roll = record { all = refl; others = λ going host outside. refl }

length_with_failure : (host : ℕ) (rows : List Entry) (statuses : List Status) → length (with_failure host rows statuses) ≡ length statuses
length_with_failure host rows statuses = by_case (has_failed rows)
  where
    by_case : (b : Bool) → length (if b then set statuses host Failed else statuses) ≡ length statuses
    by_case true = length-set statuses host Failed
    by_case false = refl

next_opening : (roll : Roll) (state : State) (event : Event) → Allowed roll state event → AtWork roll.play state → HasOpening state → HasOpening (next roll state event)
next_opening roll state (set_aside hosts) may work has =
    record {
      all = has.all ∙ sym (length-changed (λ _. Held) hosts state.statuses);
      others = λ going host outside. absurd (going may.boundary);
    }
next_opening roll state (opened batch) may work has =
    record {
      all = sym (length-changed (λ _. Running) batch state.statuses);
      others = λ going host outside. (events_leave roll state (opened batch) host outside).status;
    }
next_opening roll state (claimed host step) may work has =
    record { all = has.all; others = has.others }
next_opening roll state (reported host step ending) may work has =
    record {
      all = has.all ∙ sym (length_with_failure host (rows_with roll host (state.rows host) step ending) state.statuses);
      others = λ going other outside. (events_leave roll state (reported host step ending) other (apart other outside)).status ∙ has.others going other outside;
    }
  where
    apart : (other : ℕ) → has_number other state.batch ≡ false → is_about state (reported host step ending) other ≡ false
    apart other outside =
        ne_eqb other host (λ same. both_ways true (sym (work.inside host may.claimed) ∙ sym (ap (λ h. has_number h state.batch) same) ∙ outside) refl)
next_opening roll state (passed step) may work has =
    record { all = has.all; others = λ going. has.others (λ at. let both : working step ≡ between = sym may.at ∙ at in cc) }
next_opening roll state closed may work has =
    subst (λ (phase : Phase). HasOpening (closed_state phase state)) (sym may.at) (record {
      all = has.all ∙ sym (length-changed (at_rest may.halt) state.batch state.statuses);
      others = λ going. absurd (going refl);
    })

along : (roll : Roll) (state : State) (log : List Event) → AtWork roll.play state → HasOpening state → IsLegal roll state log → HasOpening (state_after roll state log)
along roll state [] work has legal = has
along roll state (event ∷ log) work has legal =
    along roll (next roll state event) log (next_at_work roll state event legal.0 work) (next_opening roll state event legal.0 work has) legal.1

pub end_opening : (roll : Roll) (log : List Event) → IsLegal roll (start_state roll) log → HasOpening (state_after roll (start_state roll) log)
end_opening roll log legal =
    along roll (start_state roll) log (start_at_work roll) (start_opening roll) legal
