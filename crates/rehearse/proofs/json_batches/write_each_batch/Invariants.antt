use Rattle.std.proofs.Common.{drop, take}
use Rattle.bounded_io.specs.Writing.{Writes}
use Rattle.json_output.specs.Arrays.{entries_text}
use Rattle.json_output.specs.PlanJson.{names_json}
use Rattle.rehearse.specs.Stacks.{batches_to}
use Rattle.rehearse.proofs.json_batches.write_each_batch.Given as goal

abbrev pub invariant-loop-place : goal.invariant-loop-place
invariant-loop-place g l =
    Writes g.W.Write.contents l.initial.text l.text
    (entries_text (λ place hosts. names_json l.rehearsal.rules.fleet hosts) (take l.place (drop l.from (batches_to l.rehearsal.first l.rehearsal.above))))
