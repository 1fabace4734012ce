use Rattle.std.proofs.Common.{◌≡◌, drop, find}
use Rattle.fleet_index.specs.Ids.{group_numbers}
use Rattle.fleet_index.specs.Chains.{ends_before}
use Rattle.fleet_index.proofs.chains.first_ending.Given as goal

abbrev pub invariant-loop-group : goal.invariant-loop-group
invariant-loop-group l =
    find (λ group. ends_before l.subtree_ends group l.top) (group_numbers (drop l.group-index l.groups))
    ≡ find (λ group. ends_before l.subtree_ends group l.top) (group_numbers l.groups)
