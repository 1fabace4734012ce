use Rattle.std.proofs.Common.{◌≡◌, None, get_or}
use Rattle.fleet_index.specs.NumberLists.{list_at}
use Rattle.domains.specs.FleetViews.{off_count}
use Rattle.domains.specs.Findings.{overs_until}
use Rattle.domains.specs.Ids.{host_lists}
use Rattle.domains.proofs.starts.find_overs.Given as goal

abbrev pub invariant-loop-group : goal.invariant-loop-group
invariant-loop-group l =
    l.found.items ≡ overs_until (λ group. get_or l.limits group None) (λ group. off_count l.off (list_at (host_lists l.members) group)) l.group
