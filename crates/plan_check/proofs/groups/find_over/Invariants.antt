use Rattle.std.proofs.Common.{◌≡◌, ◌<◌, ℕ, false, None}
use Rattle.std.specs.Prelude.{slice_index, slice_index_or}
use Rattle.domains.specs.Starts.{exceeds}
use Rattle.plan_check.proofs.groups.find_over.Given as goal

abbrev pub invariant-loop-place : goal.invariant-loop-place
invariant-loop-place l = (k : ℕ) → k < l.place → exceeds (slice_index_or l.rooms k None) (slice_index l.counts k) ≡ false
