use Rattle.std.proofs.Common.{◌≡◌, length}
use Rattle.text_syntax.specs.Words.{has_braces}
use denote.Text.{Utf8}
use denote.Shadow.{shadow}
use Rattle.text_syntax.proofs.check.check_word.Given as goal

abbrev pub invariant-loop-part : goal.invariant-loop-part
invariant-loop-part l = shadow (Utf8 l.rest) × (has_braces l.rest ≡ has_braces l.word)

abbrev pub decreases-loop-part : goal.decreases-loop-part
decreases-loop-part l = length l.rest
