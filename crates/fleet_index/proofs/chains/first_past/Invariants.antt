use Rattle.std.proofs.Common.{◌≡◌, drop, find, nat_lt}
use Rattle.fleet_index.specs.Ids.{group_numbers}
use Rattle.fleet_index.proofs.chains.first_past.Given as goal

abbrev pub invariant-loop-group : goal.invariant-loop-group
invariant-loop-group l =
    find (nat_lt l.bound) (group_numbers (drop l.group-index l.groups)) ≡ find (nat_lt l.bound) (group_numbers l.groups)
