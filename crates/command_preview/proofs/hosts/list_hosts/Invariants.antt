use Rattle.std.proofs.Common.{◌≡◌, ◌<◌, length}
use Rattle.std.specs.Prelude.{All}
use Rattle.domains.specs.Ids.{host_numbers}
use Rattle.fleet_index.specs.NumberLists.{numbers_where}
use Rattle.fleet_states.specs.Statuses.{is_waiting, status_at}
use Rattle.command_preview.proofs.hosts.list_hosts.Given as goal

abbrev pub invariant-loop-index : goal.invariant-loop-index
invariant-loop-index l =
    record {
      are : host_numbers l.hosts.items ≡ numbers_where (λ host. is_waiting (status_at l.statuses.items host)) l.index;
      within : All (λ host. host.index < length l.fleet.hosts) l.hosts.items;
    }
