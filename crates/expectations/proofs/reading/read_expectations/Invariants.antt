use Rattle.std.proofs.Common.{length}
use denote.Text.{Utf8}
use denote.Shadow.{shadow}
use Rattle.expectations.specs.Shown.{all_shown}
use Rattle.expectations.proofs.UnmetLemmas.{IsReadTo}
use Rattle.expectations.proofs.reading.read_expectations.Given as goal

abbrev pub invariant-loop-part : goal.invariant-loop-part
invariant-loop-part l = shadow (Utf8 l.left) × IsReadTo l.text (all_shown l.expectations.items) l.left

abbrev pub decreases-loop-part : goal.decreases-loop-part
decreases-loop-part l = length l.left
