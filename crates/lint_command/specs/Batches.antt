-- What is noted of the batches of a play.
use Rattle.std.specs.Prelude.{◌≡◌, ℕ, ◌<◌, Bool, true, is_some, ◌&&◌, nat_lt, min, if◌then◌else◌, Option, None, Some, List, [], ◌∷◌, length, map, slice_index_or}
use Rattle.domains.specs.FleetViews.{FleetView}
use Rattle.play_model.specs.declared.play.Play.{Play}
use Rattle.batch_plan.specs.declared.answers.Answer.{Answer}
use Rattle.batch_plan.specs.declared.answers.Answer.TheVariants.{Planned, Blocked}
use Rattle.play_forecast.specs.PlayPlans.{IsPlanOf}
use Rattle.fleet_states.specs.Batches.{is_past}
use Rattle.lint_rules.specs.Notes.{Note, one_failure}

-- the less of a number of hosts and another; a batch of a single host is passed over
abbrev pub lesser : Option ℕ → ℕ → Option ℕ
lesser None hosts = if nat_lt 1 hosts then Some hosts else None
lesser (Some least) hosts = if nat_lt 1 hosts then Some (min least hosts) else Some least

-- the least of one and others
abbrev pub least_of : Option ℕ → List ℕ → Option ℕ
least_of least [] = least
least_of least (hosts ∷ others) = least_of (lesser least hosts) others

abbrev pub smallest : List (List ℕ) → Option ℕ
smallest batches = least_of None (map length batches)

-- how many hosts the smallest batch of a plan has, of those of several hosts, if there is a plan with one
abbrev pub smallest_batch : Answer → Option ℕ
smallest_batch (Planned plan) = smallest plan.batches
smallest_batch (Blocked group waiting) = None

-- one failure in a batch of several hosts is more than the percentage, which is above 0
abbrev pub tolerates_no_failure : ℕ → ℕ → Bool
tolerates_no_failure percent size = nat_lt 0 percent && (nat_lt 1 size && is_past (Some percent) 1 size)

-- The play with this number may go on while no more than this percentage of a batch has failed. That is meant to bear a failure; but of a batch of several hosts, of which one is more than that, it
-- bears none. Of a batch of one host any failure is all of it.
abbrev pub failure_note : ℕ → Option ℕ → Option ℕ → Option Note
failure_note number None size = None
failure_note number (Some percent) None = None
failure_note number (Some percent) (Some size) =
    if tolerates_no_failure percent size then Some (one_failure number percent size) else None

-- the size of the smallest batch of the plan with which the play begins
pub record IsSmallestIn (fleet : FleetView) (play : Play) (size : Option ℕ) : Type 0 where
  pub answer : Answer
  pub held : List ℕ
  pub plan : IsPlanOf fleet play answer held
  pub size_is : size ≡ smallest_batch answer

-- that of a play which may go on with failures; of any other nothing is noted for it, whatever it is
abbrev pub IsSmallestOf : FleetView → Play → Option ℕ → Type 0
IsSmallestOf fleet play size = is_some play.max_fail ≡ true → IsSmallestIn fleet play size

-- of each play
pub record AreSmallestOf (fleet : FleetView) (plays : List Play) (sizes : List (Option ℕ)) : Type 0 where
  pub len : length sizes ≡ length plays
  pub each : (number : ℕ) (none : Play) → number < length plays → IsSmallestOf fleet (slice_index_or plays number none) (slice_index_or sizes number None)
