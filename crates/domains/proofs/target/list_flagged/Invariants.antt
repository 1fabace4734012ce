use Rattle.std.proofs.Common.{◌≡◌, false, map, get_or}
use Rattle.fleet_index.specs.NumberLists.{numbers_where}
use Rattle.domains.proofs.target.list_flagged.Given as goal

abbrev pub invariant-loop-index : goal.invariant-loop-index
invariant-loop-index l =
    map (λ host. host.index) l.hosts.items ≡ numbers_where (λ host. get_or l.flags host false) l.index
