use Rattle.std.proofs.Common.{flat_map}
use Rattle.bounded_io.specs.Writing.{Writes}
use Rattle.forecast_svg.specs.Escapes.{escaped_char}
use Rattle.forecast_svg.proofs.escapes.write_escaped.Given as goal

abbrev pub invariant-loop-c : goal.invariant-loop-c
invariant-loop-c g l = Writes g.W.Write.contents l.initial.text l.text (flat_map escaped_char l.yielded)
