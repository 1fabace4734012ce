use Rattle.std.proofs.Common.{take}
use Rattle.bounded_io.specs.Writing.{Writes}
use Rattle.json_output.specs.Arrays.{entries_text}
use Rattle.json_output.specs.PlanJson.{names_json}
use Rattle.json_output.proofs.plan.write_each_batch.Given as goal

abbrev pub invariant-loop-place : goal.invariant-loop-place
invariant-loop-place g l =
    Writes g.W.Write.contents l.initial.text l.text (entries_text (λ place hosts. names_json l.fleet hosts) (take l.place l.batches))
