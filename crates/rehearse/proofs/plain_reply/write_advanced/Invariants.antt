use Rattle.std.proofs.Common.{◌-◌, ◌≤◌, drop, flat_map, take}
use Rattle.std.specs.Prelude.{codes}
use Rattle.bounded_io.specs.Writing.{Writes}
use Rattle.recap.specs.PlanText.{names_line}
use Rattle.rehearse.specs.Stacks.{batches_to}
use Rattle.rehearse.proofs.plain_reply.write_advanced.Given as goal

abbrev pub invariant-loop-place : goal.invariant-loop-place
invariant-loop-place g l = record {
  written : Writes g.W.Write.contents l.initial.text l.text
      (flat_map (names_line (codes "advanced:") l.rehearsal.rules.fleet) (take (l.place - l.from) (drop l.from (batches_to l.rehearsal.first l.rehearsal.above))));
  behind : l.from ≤ l.place;
}
