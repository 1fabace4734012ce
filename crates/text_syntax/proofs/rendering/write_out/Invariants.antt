use Rattle.std.proofs.Common.{◌≡◌, ◌++◌, length, string_bytes}
use denote.Text.{Utf8}
use denote.Shadow.{shadow}
use Rattle.text_syntax.specs.Renders.{rendered}
use Rattle.text_syntax.proofs.rendering.write_out.Given as goal

abbrev pub invariant-loop-part : goal.invariant-loop-part
invariant-loop-part g l =
    shadow (Utf8 l.rest) × (string_bytes l.text ++ rendered (g.V.Values.values l.values) l.rest ≡ rendered (g.V.Values.values l.values) l.word)

abbrev pub decreases-loop-part : goal.decreases-loop-part
decreases-loop-part g l = length l.rest
