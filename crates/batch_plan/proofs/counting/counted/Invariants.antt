use Rattle.std.proofs.Common.{◌≡◌, ℕ, ◌<◌, length}
use Rattle.fleet_states.specs.Statuses.{status_at}
use Rattle.batch_plan.specs.Counts.{place_at}
use Rattle.batch_plan.specs.Places.{place_of}
use Rattle.batch_plan.proofs.counting.counted.Given as goal

abbrev pub invariant-loop-index : goal.invariant-loop-index
invariant-loop-index g l =
    record {
      fleet : l.domains.fleet ≡ l.fleet;
      all_hosts : length l.domains.places ≡ length l.statuses;
      places : (host : ℕ) → host < l.index → place_at l.domains.places host ≡ place_of (status_at l.statuses host);
    }
