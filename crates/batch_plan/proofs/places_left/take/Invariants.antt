use Rattle.std.proofs.Common.{◌≡◌, ℕ, ◌+◌, ◌<◌, length, get_or, take, cond}
use Rattle.fleet_index.specs.NumberLists.{has_number}
use Rattle.domains.specs.Ids.{group_numbers}
use Rattle.batch_plan.proofs.places_left.take.Given as goal

abbrev pub invariant-loop-group : goal.invariant-loop-group
invariant-loop-group l =
    record {
      len : length l.left ≡ length l.initial.left;
      taken : (group : ℕ) → group < length l.initial.left
          → get_or l.left group 0 + cond (has_number group (take l.group-index (group_numbers l.chain))) 1 0 ≡ get_or l.initial.left group 0;
    }
