use Rattle.std.proofs.Common.{◌≡◌}
use Rattle.domains.specs.Ids.{host_numbers}
use Rattle.fleet_index.specs.NumberLists.{numbers_where}
use Rattle.fleet_states.specs.Groups.{groups_of}
use Rattle.batch_plan.specs.Holding.{waits_without_room}
use Rattle.batch_plan.proofs.holding.list_held.Given as goal

abbrev pub invariant-loop-index : goal.invariant-loop-index
invariant-loop-index l = host_numbers l.hosts.items ≡ numbers_where (waits_without_room (groups_of l.fleet) l.statuses) l.index
