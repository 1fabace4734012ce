use Rattle.std.proofs.Common.{◌≡◌}
use Rattle.domains.specs.Ids.{group_numbers}
use Rattle.fleet_index.specs.Chains.{is_limited}
use Rattle.fleet_index.specs.NumberLists.{numbers_where}
use Rattle.forecast_svg.proofs.groups.list_limited.Given as goal

abbrev pub invariant-loop-index : goal.invariant-loop-index
invariant-loop-index l = group_numbers l.groups.items ≡ numbers_where (is_limited l.fleet.limits) l.index
