use Rattle.std.proofs.Common.{take}
use Rattle.bounded_io.specs.Writing.{Writes}
use Rattle.recap.specs.RecapText.{boundary_lines}
use Rattle.recap.proofs.boundaries.write_boundaries.Given as goal

abbrev pub invariant-loop-place : goal.invariant-loop-place
invariant-loop-place g l =
    Writes g.W.Write.contents l.initial.text l.text (boundary_lines l.fleet l.opened (take l.place l.boundaries))
