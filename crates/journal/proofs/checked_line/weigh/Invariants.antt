use Rattle.std.proofs.Common.{◌≡◌, ◌+◌, ◌*◌, ◌≤◌, drop}
use Rattle.journal.specs.Lines.{weighed}
use Rattle.journal.proofs.checked_line.weigh.Given as goal

abbrev pub invariant-loop-index : goal.invariant-loop-index
invariant-loop-index l = record {
  left : l.sum + weighed (l.index + 1) (drop l.index l.bytes) ≡ weighed 1 l.bytes;
  within : l.sum ≤ l.index * 4278190080;
}
