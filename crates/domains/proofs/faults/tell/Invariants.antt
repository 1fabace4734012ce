use Rattle.std.proofs.Common.{◌≡◌, Some, map, take}
use Rattle.domains.specs.Breaches.{breach_of, named}
use Rattle.domains.specs.Outcomes.{host_names, listed_groups}
use Rattle.domains.proofs.faults.tell.Given as goal

abbrev pub invariant-loop-finding : goal.invariant-loop-finding
invariant-loop-finding l =
    map breach_of l.faults.items ≡ map (λ finding. Some (named (host_names l.numbers) (listed_groups l.numbers) finding)) (take l.finding-index l.finding-items)
