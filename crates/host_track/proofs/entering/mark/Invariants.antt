use Rattle.std.proofs.Common.{◌≡◌, ℕ, ◌<◌, ◌||◌, length, take}
use Rattle.fleet_index.specs.NumberLists.{has_number}
use Rattle.host_track.specs.Summaries.{mark_at}
use Rattle.host_track.proofs.entering.mark.Given as goal

abbrev pub invariant-loop-handler : goal.invariant-loop-handler
invariant-loop-handler l =
    (number : ℕ) → number < length l.initial.marks → mark_at l.marks number ≡ (mark_at l.initial.marks number || has_number number (take l.handler-index l.handlers))
