use Rattle.std.proofs.Common.{◌≡◌, ℕ, ◌<◌, false}
use Rattle.batch_plan.specs.Needs.{is_blocked, need_at}
use Rattle.batch_plan.proofs.naming.first_blocked.Given as goal

abbrev pub invariant-loop-index : goal.invariant-loop-index
invariant-loop-index l =
    (earlier : ℕ) → earlier < l.index → is_blocked (need_at l.needs earlier) ≡ false
