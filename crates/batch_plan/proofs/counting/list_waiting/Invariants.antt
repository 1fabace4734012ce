use Rattle.std.proofs.Common.{◌≡◌, filter, take}
use Rattle.domains.specs.Ids.{host_numbers}
use Rattle.batch_plan.specs.Counts.{place_at}
use Rattle.batch_plan.specs.CountPlaces.{waits}
use Rattle.batch_plan.proofs.counting.list_waiting.Given as goal

abbrev pub invariant-loop-host : goal.invariant-loop-host
invariant-loop-host g l =
    host_numbers l.hosts.items ≡ filter (λ host. waits (place_at l.domains.places host)) (take l.host-index l.domains.fleet.order)
