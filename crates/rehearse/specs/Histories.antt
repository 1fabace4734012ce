-- Where a session stands, and where it stood before each command that led on.
use Rattle.std.specs.Prelude.{Bool, true, false, List, [], ◌∷◌}
use Rattle.group_tree.specs.declared.ids.HostId.{HostId}
use Rattle.rehearse.specs.Stacks.{RehearsalView}

-- where a session stands: a rehearsal, and the hosts that were marked to fail when their batch comes
pub record Place : Type 0 where
  pub rehearsal : RehearsalView
  pub marked : List HostId

-- a session's history as contracts see it: where it stands, where it stood before each command that led on, the last one first, and whether a line was refused
pub record HistoryView : Type 0 where
  pub place : Place
  pub earlier : List Place
  pub refused : Bool

-- nothing was done yet
abbrev pub unbegun : RehearsalView → HistoryView
unbegun rehearsal = record { place = record { rehearsal = rehearsal; marked = [] }; earlier = []; refused = false }

-- a command led on to the place
abbrev pub led_on : Place → HistoryView → HistoryView
led_on place history = record { place = place; earlier = history.place ∷ history.earlier; refused = history.refused }

-- a line was refused
abbrev pub refusing : HistoryView → HistoryView
refusing history = record history { refused = true }

-- it stands where it stood before the last command that led on; where it always stood if there is none
abbrev pub back_at : HistoryView → List Place → HistoryView
back_at history [] = history
back_at history (place ∷ earlier) = record { place = place; earlier = earlier; refused = history.refused }

-- there is a command to take back
abbrev pub has_earlier : List Place → Bool
has_earlier [] = false
has_earlier (place ∷ earlier) = true

-- the last command that led on is taken back, whole
abbrev pub undone : HistoryView → HistoryView
undone history = back_at history history.earlier
