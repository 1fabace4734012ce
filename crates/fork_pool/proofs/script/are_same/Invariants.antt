use Rattle.std.proofs.Common.{◌≡◌, take}
use Rattle.fork_pool.specs.ScriptRows.{lines_of}
use Rattle.fork_pool.proofs.script.are_same.Given as goal

abbrev pub invariant-loop-place : goal.invariant-loop-place
invariant-loop-place l =
    take l.place (lines_of l.rows) ≡ take l.place (lines_of l.others)
