use Rattle.std.proofs.Common.{take}
use Rattle.bounded_io.specs.Writing.{Writes}
use Rattle.recap.specs.RecapText.{recaps_text}
use Rattle.recap.proofs.writing.write_each_play.Given as goal

abbrev pub invariant-loop-place : goal.invariant-loop-place
invariant-loop-place g l =
    Writes g.W.Write.contents l.initial.text l.text (recaps_text l.fleet (take l.place l.recaps))
