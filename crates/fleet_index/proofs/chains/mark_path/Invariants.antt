use Rattle.std.proofs.Common.{◌≡◌, ℕ, ◌<◌, length, get_or, take, cond}
use Rattle.fleet_index.specs.NumberLists.{has_number}
use Rattle.fleet_index.proofs.chains.mark_path.Given as goal

abbrev pub invariant-loop-group : goal.invariant-loop-group
invariant-loop-group l =
    (group : ℕ) → group < length l.initial.subtree_ends → get_or l.subtree_ends group 0 ≡ cond (has_number group (take l.group-index l.path)) l.number (get_or l.initial.subtree_ends group 0)
