use Rattle.std.proofs.Common.{◌≡◌, drop}
use Rattle.fork_pool.specs.ScriptLines.{told_by}
use Rattle.fork_pool.specs.ScriptRows.{lines_of}
use Rattle.fork_pool.proofs.script.running.outcome_of.Given as goal

abbrev pub invariant-loop-row : goal.invariant-loop-row
invariant-loop-row l =
    told_by (lines_of l.rows) l.host.index l.step ≡ told_by (lines_of (drop l.row-index l.rows)) l.host.index l.step
