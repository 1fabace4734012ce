use Rattle.std.proofs.Common.{◌≡◌, ℕ, ◌<◌}
use Rattle.fleet_index.specs.NumberLists.{list_at}
use Rattle.batch_plan.specs.Checks.{FitInto}
use Rattle.batch_plan.proofs.places_left.all_fit.Given as goal

abbrev pub invariant-loop-place : goal.invariant-loop-place
invariant-loop-place l =
    record {
      same : l.left ≡ l.initial.left;
      fit : (place : ℕ) → place < l.place → FitInto l.fleet.chains l.initial.left (list_at l.batches place);
    }
