use Rattle.std.proofs.Common.{◌≡◌, map, take}
use Rattle.domains.specs.FleetLists.{parent_on}
use Rattle.domains.proofs.lists.list_parents.Given as goal

abbrev pub invariant-loop-group : goal.invariant-loop-group
invariant-loop-group l = l.parents.items ≡ map parent_on (take l.group l.paths)
