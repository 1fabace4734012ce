use Rattle.bounded_io.specs.Writing.{Writes}
use Rattle.occupancy_table.specs.TableText.{blanks}
use Rattle.occupancy_table.proofs.padding.write_blanks.Given as goal

abbrev pub invariant-loop-blank : goal.invariant-loop-blank
invariant-loop-blank g l = Writes g.W.Write.contents l.initial.text l.text (blanks l._blank)
