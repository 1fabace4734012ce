use Rattle.std.proofs.Common.{◌≡◌, take, true}
use Rattle.std.specs.List.{list_all}
use Rattle.batch_plan.specs.Checks.{keeps_cap}
use Rattle.batch_plan.proofs.checker.keep_cap.Given as goal

abbrev pub invariant-loop-place : goal.invariant-loop-place
invariant-loop-place l =
    list_all (keeps_cap l.statuses l.cap) (take l.place l.batches) ≡ true
