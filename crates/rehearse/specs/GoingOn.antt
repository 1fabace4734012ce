-- Going on by batches in which the marked hosts fail.
use Rattle.std.specs.Prelude.{◌≡◌, ℕ, zero, suc, ◌==◌, Option, Some, None, Bool, true, List, [], ◌++◌, ◌∷◌, filter, is_some, if◌then◌else◌}
use Rattle.std.specs.List.{list_any}
use Rattle.group_tree.specs.declared.ids.HostId.{HostId}
use Rattle.fleet_index.specs.NumberLists.{has_number}
use Rattle.play_forecast.specs.declared.end.End.{End}
use Rattle.play_forecast.specs.Courses.{next_batch}
use Rattle.rehearse.specs.Stacks.{IsAdvanced, RehearsalView, top}
use Rattle.rehearse.specs.Histories.{HistoryView, led_on}

-- those of the marked hosts that stand in the batch that comes next
abbrev pub marked_next : RehearsalView → List HostId → List HostId
marked_next rehearsal marked = filter (λ host. has_number host.index (next_batch (top rehearsal).boundary.answer)) marked

-- an advance in which just the marked hosts of the batch fail, and what comes later; nothing where the play has ended
abbrev pub UnlessOver : (RehearsalView → RehearsalView → Type 0) → List HostId → Option End → RehearsalView → RehearsalView → Type 0
UnlessOver Later marked (Some end) before after = after ≡ before
UnlessOver Later marked None before after = (between : RehearsalView) × IsAdvanced (marked_next before marked) before between × Later between after

-- so many advances one behind the other, in each of which just the marked hosts of the batch fail; fewer where the play ends before
abbrev pub AreAdvances : ℕ → List HostId → RehearsalView → RehearsalView → Type 0
AreAdvances zero marked before after = after ≡ before
AreAdvances (suc count) marked before after = UnlessOver (AreAdvances count marked) marked (top before).end before after

-- such advances until the play has ended
pub record AreAdvancesToEnd (marked : List HostId) (before after : RehearsalView) : Type 0 where
  pub count : ℕ
  pub advances : AreAdvances count marked before after
  pub ended : is_some (top after).end ≡ true

-- the session's rehearsal stands there, with the same hosts marked
abbrev pub rehearsal_at : RehearsalView → HistoryView → HistoryView
rehearsal_at rehearsal history = led_on (record { rehearsal = rehearsal; marked = history.place.marked }) history

-- the rehearsal advanced by one batch, in which the named hosts fail, and the marked ones of the batch
pub record HasAdvanced (named : List HostId) (before after : HistoryView) : Type 0 where
  pub rehearsal : RehearsalView
  pub advanced : IsAdvanced (named ++ marked_next before.place.rehearsal before.place.marked) before.place.rehearsal rehearsal
  pub leads : after ≡ rehearsal_at rehearsal before

-- the rehearsal advanced by so many batches, or to the end of the play before them
pub record HasAdvancedBy (count : ℕ) (before after : HistoryView) : Type 0 where
  pub rehearsal : RehearsalView
  pub advances : AreAdvances count before.place.marked before.place.rehearsal rehearsal
  pub leads : after ≡ rehearsal_at rehearsal before

-- the rehearsal advanced to the end of the play
pub record HasFinished (before after : HistoryView) : Type 0 where
  pub rehearsal : RehearsalView
  pub advances : AreAdvancesToEnd before.place.marked before.place.rehearsal rehearsal
  pub leads : after ≡ rehearsal_at rehearsal before

-- the host was marked
abbrev pub marking : HostId → HistoryView → HistoryView
marking host history = led_on (record { rehearsal = history.place.rehearsal; marked = history.place.marked ++ host ∷ [] }) history

-- the host is marked
abbrev pub is_marked : HistoryView → HostId → Bool
is_marked history host = list_any (λ other. host.index == other.index) history.place.marked

-- a host that is marked already stays so, and that is nothing to take back
abbrev pub marked_as : HostId → HistoryView → HistoryView
marked_as host history = if is_marked history host then history else marking host history
