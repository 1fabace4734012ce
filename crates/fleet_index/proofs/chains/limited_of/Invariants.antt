use Rattle.std.proofs.Common.{◌≡◌, take, filter}
use Rattle.fleet_index.specs.Ids.{group_numbers}
use Rattle.fleet_index.specs.Chains.{is_limited}
use Rattle.fleet_index.proofs.chains.limited_of.Given as goal

abbrev pub invariant-loop-index : goal.invariant-loop-index
invariant-loop-index l = group_numbers l.limited.items ≡ filter (is_limited l.limits) (take l.index l.groups)
