use Rattle.std.proofs.Common.{◌≡◌, ℕ, ◌+◌, ◌<◌, min, nat_eq, length, get_or, take}
use Rattle.std.specs.List.{count_by}
use Rattle.domains.specs.Ids.{host_numbers}
use Rattle.batch_plan.proofs.marks.mark_batch.Given as goal

abbrev pub invariant-loop-host : goal.invariant-loop-host
invariant-loop-host l =
    record {
      len : length l.marks ≡ length l.initial.marks;
      times : (other : ℕ) → other < length l.initial.marks
          → min 2 (get_or l.marks other 0) ≡ min 2 (get_or l.initial.marks other 0 + count_by (nat_eq other) (take l.host-index (host_numbers l.batch)));
    }
