use Rattle.std.proofs.Common.{◌≡◌, ◌+◌, ◌≤◌, length}
use denote.Text.{Utf8}
use denote.Shadow.{shadow}
use Rattle.text_syntax.specs.Renders.{rendered}
use Rattle.text_syntax.specs.Faults.{max_rendered}
use Rattle.text_syntax.proofs.rendering.rendered_length.Given as goal

abbrev pub invariant-loop-part : goal.invariant-loop-part
invariant-loop-part g l =
    shadow (Utf8 l.rest) × (length (rendered (g.V.Values.values l.values) l.word) + l.room ≡ max_rendered + length (rendered (g.V.Values.values l.values) l.rest)) × (l.room ≤ max_rendered)

abbrev pub decreases-loop-part : goal.decreases-loop-part
decreases-loop-part g l = length l.rest
