use Rattle.std.proofs.Common.{◌≡◌, ◌&&◌, false, get_or}
use Rattle.domains.specs.Ids.{host_numbers}
use Rattle.fleet_index.specs.NumberLists.{numbers_where}
use Rattle.fleet_states.specs.Statuses.{status_at}
use Rattle.run_diagnosis.specs.LeftOut.{is_off}
use Rattle.run_diagnosis.proofs.skipped.list_flagged.Given as goal

abbrev pub invariant-loop-index : goal.invariant-loop-index
invariant-loop-index l =
    host_numbers l.hosts.items ≡ numbers_where (λ host. is_off (status_at l.statuses host) && get_or l.flags host false) l.index
