use Rattle.std.proofs.Common.{◌≡◌, ℕ, ◌<◌, get_or}
use Rattle.batch_plan.specs.Checks.{due}
use Rattle.batch_plan.proofs.marks.are_as_due.Given as goal

abbrev pub invariant-loop-index : goal.invariant-loop-index
invariant-loop-index l =
    (host : ℕ) → host < l.index → get_or l.marks host 0 ≡ due l.statuses host
