use Rattle.std.proofs.Common.{◌≡◌, map, replicate, []}
use Rattle.fleet_index.proofs.lists.empty_lists.Given as goal

abbrev pub invariant-loop-i : goal.invariant-loop-i
invariant-loop-i g l = map (λ list. list.items) l.lists.items ≡ replicate l._i []
