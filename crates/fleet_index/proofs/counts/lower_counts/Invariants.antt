use Rattle.std.proofs.Common.{◌≡◌, ℕ, ◌+◌, ◌<◌, length, get_or, take}
use Rattle.fleet_index.specs.NumberLists.{bit, has_number}
use Rattle.fleet_index.specs.Ids.{group_numbers}
use Rattle.fleet_index.proofs.counts.lower_counts.Given as goal

abbrev pub invariant-loop-group : goal.invariant-loop-group
invariant-loop-group l =
    record {
      len : length l.counts ≡ length l.initial.counts;
      lowered : (group : ℕ) → group < length l.initial.counts
          → get_or l.counts group 0 + bit (has_number group (take l.group-index (group_numbers l.groups))) ≡ get_or l.initial.counts group 0;
    }
