use Rattle.std.proofs.Common.{◌≡◌, ◌<◌, ℕ, false, List}
use Rattle.plan_check.specs.Inside.{AreMarks}
use Rattle.plan_check.specs.PlanErrors.{is_left_out}
use Rattle.plan_check.proofs.hosts.wrong_end.Given as goal

abbrev pub invariant-loop-index : goal.invariant-loop-index
invariant-loop-index l = (before : List ℕ) → AreMarks l.stood before → (k : ℕ) → k < l.index → is_left_out l.statuses before k ≡ false
