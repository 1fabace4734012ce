use Rattle.std.proofs.Common.{◌≡◌, map, filter, take}
use Rattle.fleet_index.specs.Ids.{group_lists}
use Rattle.fleet_index.specs.Chains.{is_limited}
use Rattle.fleet_index.proofs.chains.list_chains.Given as goal

abbrev pub invariant-loop-host : goal.invariant-loop-host
invariant-loop-host l = group_lists l.chains.items ≡ map (filter (is_limited l.limits)) (take l.host l.held)
