use Rattle.std.proofs.Common.{◌≡◌, ◌*◌, ◌++◌, List, length, take}
use Rattle.std.specs.List.{flat_map}
use Rattle.fleet_index.specs.Chains.{ends_before}
use Rattle.domains.specs.Findings.{crossings_with}
use Rattle.domains.specs.Ids.{group_numbers}
use Rattle.domains.specs.Search.{AreSeen}
use Rattle.domains.specs.declared.finding.Crossing.{Crossing}
use Rattle.domains.proofs.crossings.Crossings.add_at.Given as goal

abbrev pub invariant-loop-first : goal.invariant-loop-first
invariant-loop-first l = record {
  sized : length l.self.marks.items ≡ length l.ends * length l.ends;
  seen : (seen : List Crossing) → AreSeen (length l.ends) seen l.initial.self.found.items l.initial.self.marks.items
      → AreSeen (length l.ends) (seen ++ flat_map (crossings_with (ends_before l.ends) l.host (group_numbers l.chain)) (group_numbers (take l.first-index l.chain))) l.self.found.items l.self.marks.items;
}
