use Rattle.std.proofs.Common.{◌≡◌}
use Rattle.fleet_index.specs.NumberLists.{numbers_where}
use Rattle.domains.specs.Ids.{host_numbers}
use Rattle.fleet_states.specs.Statuses.{is_waiting, status_at}
use Rattle.journal.proofs.writing.list_waiting.Given as goal

abbrev pub invariant-loop-index : goal.invariant-loop-index
invariant-loop-index l = host_numbers l.hosts.items ≡ numbers_where (λ host. is_waiting (status_at l.statuses host)) l.index
