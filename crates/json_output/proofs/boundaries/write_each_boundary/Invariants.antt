use Rattle.std.proofs.Common.{take, nat_lt}
use Rattle.bounded_io.specs.Writing.{Writes}
use Rattle.json_output.specs.Arrays.{entries_text}
use Rattle.json_output.specs.PlayJson.{boundary_json}
use Rattle.json_output.proofs.boundaries.write_each_boundary.Given as goal

abbrev pub invariant-loop-place : goal.invariant-loop-place
invariant-loop-place g l =
    Writes g.W.Write.contents l.initial.text l.text (entries_text (λ place boundary. boundary_json l.fleet boundary (nat_lt place l.opened)) (take l.place l.boundaries))
