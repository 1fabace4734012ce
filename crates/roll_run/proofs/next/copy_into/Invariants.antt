use Rattle.std.proofs.Common.{◌≡◌, ◌≤◌}
use Rattle.std.specs.Prelude.{take, vec_capacity}
use Rattle.roll_run.proofs.next.copy_into.Given as goal

abbrev pub invariant-loop-index : goal.invariant-loop-index
invariant-loop-index l =
    record { items : l.room.items ≡ take l.index l.statuses; capacity : vec_capacity l.initial.room ≤ vec_capacity l.room }
