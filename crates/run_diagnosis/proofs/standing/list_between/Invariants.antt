use Rattle.std.proofs.Common.{◌≡◌}
use Rattle.domains.specs.Ids.{host_numbers}
use Rattle.fleet_index.specs.NumberLists.{numbers_where}
use Rattle.fleet_states.specs.Statuses.{status_at}
use Rattle.run_diagnosis.specs.Standing.{is_between}
use Rattle.run_diagnosis.proofs.standing.list_between.Given as goal

abbrev pub invariant-loop-index : goal.invariant-loop-index
invariant-loop-index l =
    host_numbers l.hosts.items ≡ numbers_where (λ host. is_between l.least l.most (status_at l.statuses host)) l.index
