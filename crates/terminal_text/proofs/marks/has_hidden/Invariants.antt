use Rattle.std.proofs.Common.{◌≡◌, drop}
use Rattle.terminal_text.specs.Marks.{has_hidden}
use Rattle.terminal_text.proofs.marks.has_hidden.Given as goal

abbrev pub invariant-loop-place : goal.invariant-loop-place
invariant-loop-place l = has_hidden (drop l.place l.bytes) ≡ has_hidden l.bytes
