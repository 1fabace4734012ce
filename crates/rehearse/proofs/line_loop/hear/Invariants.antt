use Rattle.std.proofs.Common.{length}
use Rattle.rehearse.specs.Tellings.{telling_of}
use Rattle.rehearse.proofs.HearingLemmas.{Hearing}
use Rattle.rehearse.proofs.line_loop.hear.Given as goal

abbrev pub invariant-loop-front : goal.invariant-loop-front
invariant-loop-front g l =
    Hearing g.W.Write.contents (telling_of l.form) l.initial.history l.initial.line.items l.bytes l.left l.line.items l.history l.initial.text l.text

abbrev pub decreases-loop-front : goal.decreases-loop-front
decreases-loop-front g l = length l.left
