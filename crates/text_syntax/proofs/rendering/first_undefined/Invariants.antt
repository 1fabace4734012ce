use Rattle.std.proofs.Common.{◌≡◌, length}
use denote.Text.{Utf8}
use denote.Shadow.{shadow}
use Rattle.text_syntax.specs.Words.{parts_of}
use Rattle.text_syntax.specs.Renders.{first_undefined}
use Rattle.text_syntax.proofs.rendering.first_undefined.Given as goal

abbrev pub invariant-loop-part : goal.invariant-loop-part
invariant-loop-part g l =
    shadow (Utf8 l.rest) × (first_undefined (g.V.Values.values l.values) (parts_of l.rest) ≡ first_undefined (g.V.Values.values l.values) (parts_of l.word))

abbrev pub decreases-loop-part : goal.decreases-loop-part
decreases-loop-part g l = length l.rest
