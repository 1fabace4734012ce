use Rattle.std.proofs.Common.{◌≡◌, length, map, drop}
use Rattle.lint_command.specs.Batches.{least_of, smallest}
use Rattle.lint_command.proofs.batches.smallest.Given as goal

-- the least of it and of what is left is the least of all
abbrev pub invariant-loop-place : goal.invariant-loop-place
invariant-loop-place l = least_of l.least (map length (drop l.place l.batches)) ≡ smallest l.batches
