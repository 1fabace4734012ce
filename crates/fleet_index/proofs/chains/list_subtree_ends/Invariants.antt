use Rattle.std.proofs.Common.{◌≡◌, ℕ, ◌<◌, length, get_or}
use Rattle.fleet_index.specs.NumberLists.{has_number, list_at, last_where}
use Rattle.fleet_index.proofs.chains.list_subtree_ends.Given as goal

abbrev pub invariant-loop-number : goal.invariant-loop-number
invariant-loop-number l =
    record {
      len : length l.subtree_ends.items ≡ length l.paths;
      marked : (group : ℕ) → group < length l.paths → get_or l.subtree_ends.items group 0 ≡ last_where (λ number. has_number group (list_at l.paths number)) l.number;
    }
