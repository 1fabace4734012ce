use Rattle.std.proofs.Common.{◌≡◌, ℕ, List, ◌++◌, ◌∷◌, [], chars, flat_map, ap, sym, ◌∙◌, map-id, append-nil, subst}
use Rattle.std.proofs.lemmas.Grind.{flat_map-append}
use Rattle.std.proofs.lemmas.Iterator.{YieldsList-from_chars}
use Rattle.std.proofs.lemmas.Iterator.Consumers.{YieldsList-end}
use Rattle.bounded_io.specs.Writing.{Writes}
use Rattle.bounded_io.proofs.WritingLemmas.{writes_two}
use Rattle.forecast_svg.specs.Escapes.{escaped_char}
use Rattle.forecast_svg.proofs.escapes.write_escaped.Goals as goal

-- one more character
one_more : (seen : List ℕ) (c : ℕ) → flat_map escaped_char seen ++ escaped_char c ≡ flat_map escaped_char (seen ++ c ∷ [])
one_more seen c =
    sym (flat_map-append escaped_char seen (c ∷ []) ∙ ap (λ (l : List ℕ). flat_map escaped_char seen ++ l) (append-nil (escaped_char c)))

pub loop-c-preserved : goal.loop-c-preserved
loop-c-preserved g c =
    writes_two _ c.args.text.now c.loop-c.text c.write_char.new.text _ _ _ c.loop-c.invariant c.write_char.ensures (one_more c.loop-c.yielded _)

pub returns : goal.returns
returns g c =
    let done = YieldsList-end (YieldsList-from_chars c.args.name.now c.utf8.name cc) c.loop-c.yielded _ c.loop-c.yielded_by _ _ c.in-None.is c.next.ensures.steps in
    let all : c.loop-c.yielded ≡ chars c.args.name.now = sym (map-id c.loop-c.yielded) ∙ done.0 in
    subst (λ (l : List ℕ). Writes g.W.Write.contents c.args.text.now c.loop-c.text (flat_map escaped_char l)) all c.loop-c.invariant
