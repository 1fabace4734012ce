use Rattle.std.proofs.Common.{◌≡◌}
use Rattle.domains.specs.Ids.{host_numbers}
use Rattle.fleet_index.specs.NumberLists.{numbers_where}
use Rattle.fleet_states.specs.Statuses.{is_down, status_at}
use Rattle.plan_occupancy.proofs.down.list_down.Given as goal

abbrev pub invariant-loop-index : goal.invariant-loop-index
invariant-loop-index l = host_numbers l.hosts.items ≡ numbers_where (λ host. is_down (status_at l.statuses host)) l.index
