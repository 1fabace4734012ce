use Rattle.std.proofs.Common.{◌≡◌, ℕ, ◌^◌, ◌<◌, length, get_or}
use Rattle.batch_plan.specs.Checks.{places_in}
use Rattle.batch_plan.proofs.places_left.fill.Given as goal

abbrev pub invariant-loop-index : goal.invariant-loop-index
invariant-loop-index l =
    record {
      len : length l.left ≡ length l.initial.left;
      places : (group : ℕ) → group < l.index → get_or l.left group 0 ≡ places_in l.fleet l.statuses group;
      small : (group : ℕ) → group < l.index → get_or l.left group 0 < 2 ^ 32;
    }
