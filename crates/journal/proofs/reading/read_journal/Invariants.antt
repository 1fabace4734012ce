use Rattle.std.proofs.Common.{◌≤◌, ◌+◌, length}
use Rattle.journal.specs.Shown.{shown_journal}
use Rattle.journal.proofs.ReadLemmas.{IsReadTo}
use Rattle.journal.proofs.reading.read_journal.Given as goal

abbrev pub invariant-loop-front : goal.invariant-loop-front
invariant-loop-front l = record {
  so_far : IsReadTo l.fleet l.text l.left (shown_journal l.journal) l.line;
  within : l.line + length l.left ≤ length l.text + 1;
}

abbrev pub decreases-loop-front : goal.decreases-loop-front
decreases-loop-front l = length l.left
