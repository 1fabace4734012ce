use Rattle.std.proofs.Common.{◌≡◌, ℕ, ◌+◌, ◌<◌, min, length, get_or, take}
use Rattle.batch_plan.specs.Plans.{times_in}
use Rattle.batch_plan.proofs.marks.mark_all.Given as goal

abbrev pub invariant-loop-place : goal.invariant-loop-place
invariant-loop-place l =
    record {
      len : length l.marks ≡ length l.initial.marks;
      times : (other : ℕ) → other < length l.initial.marks
          → min 2 (get_or l.marks other 0) ≡ min 2 (get_or l.initial.marks other 0 + times_in (take l.place l.batches) other);
    }
