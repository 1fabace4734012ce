use Rattle.std.proofs.Common.{◌≡◌, ◌*◌, length}
use Rattle.fleet_index.specs.Chains.{ends_before}
use Rattle.domains.specs.Findings.{crossings_until}
use Rattle.domains.specs.Ids.{group_lists}
use Rattle.domains.specs.Search.{AreSeen}
use Rattle.domains.proofs.crossings.find_crossings.Given as goal

abbrev pub invariant-loop-host : goal.invariant-loop-host
invariant-loop-host l = record {
  sized : length l.crossings.marks.items ≡ length l.ends * length l.ends;
  seen : AreSeen (length l.ends) (crossings_until (ends_before l.ends) (group_lists l.chains) l.host) l.crossings.found.items l.crossings.marks.items;
}
