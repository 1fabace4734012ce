use Rattle.std.proofs.Common.{◌≡◌, ℕ, ◌<◌, length, take}
use Rattle.std.specs.List.{last_or}
use Rattle.roll_core.specs.Views.{events_of}
use Rattle.run_diagnosis.specs.Rows.{rows_told, seen_at}
use Rattle.run_diagnosis.proofs.rows.note_all.Given as goal

abbrev pub invariant-loop-event : goal.invariant-loop-event
invariant-loop-event l =
    (length l.last.items ≡ length l.initial.last.items)
    × ((host : ℕ) → host < length l.initial.last.items
    → seen_at l.last.items host ≡ last_or (seen_at l.initial.last.items host) (rows_told l.number l.steps host (take l.event-index (events_of l.log))))
