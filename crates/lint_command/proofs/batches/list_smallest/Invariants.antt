use Rattle.lint_command.proofs.BatchLemmas.{AreSmallestSoFar}
use Rattle.lint_command.proofs.batches.list_smallest.Given as goal

abbrev pub invariant-loop-play : goal.invariant-loop-play
invariant-loop-play l = AreSmallestSoFar l.fleet l.plays l.sizes.items l.play-index
