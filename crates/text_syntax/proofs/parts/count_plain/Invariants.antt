use Rattle.std.proofs.Common.{◌≡◌, ◌+◌, drop}
use Rattle.text_syntax.specs.Words.{plain_length}
use Rattle.text_syntax.proofs.parts.count_plain.Given as goal

abbrev pub invariant-loop-index : goal.invariant-loop-index
invariant-loop-index l = plain_length l.bytes ≡ l.index + plain_length (drop l.index l.bytes)
