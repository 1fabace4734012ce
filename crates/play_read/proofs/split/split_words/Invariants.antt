use Rattle.std.proofs.Common.{◌≡◌, ◌++◌, filter, IfSome}
use Rattle.text_syntax.specs.Patterns.{is_filled}
use Rattle.playbook_schema.specs.Commands.{split}
use Rattle.play_read.specs.Pieces.{pieces_left, IsOpenBelow, size_left}
use Rattle.play_read.proofs.split.split_words.Given as goal

abbrev pub invariant-loop-left : goal.invariant-loop-left
invariant-loop-left l =
    (l.words ++ filter is_filled (pieces_left l.left) ≡ split l.text) × IfSome l.left (λ rest. IsOpenBelow l.tail rest.now)

abbrev pub decreases-loop-left : goal.decreases-loop-left
decreases-loop-left l = size_left l.left
