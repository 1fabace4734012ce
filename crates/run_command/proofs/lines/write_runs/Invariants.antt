use Rattle.std.proofs.Common.{take}
use Rattle.bounded_io.specs.Writing.{Writes}
use Rattle.run_command.specs.Recaps.{runs_lines_from}
use Rattle.run_command.proofs.lines.write_runs.Given as goal

abbrev pub invariant-loop-place : goal.invariant-loop-place
invariant-loop-place g l =
    Writes g.W.Write.contents l.initial.text l.text (runs_lines_from l.plays_before l.fleet l.several (take l.place l.runs))
