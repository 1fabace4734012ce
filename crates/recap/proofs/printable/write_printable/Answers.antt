use Rattle.std.proofs.Common.{◌≡◌, ℕ, List, ◌∷◌, [], arith, ap, refl, subst, ◌∙◌, flat_map, length, map, take}
use Rattle.std.proofs.Math.Seq.{take-length}
use Rattle.bounded_io.specs.Writing.{Writes}
use Rattle.bounded_io.proofs.Pieces.{writes_each}
use Rattle.recap.specs.Printable.{printable}
use Rattle.recap.proofs.Printing.{one_by_one}
use Rattle.recap.proofs.printable.write_printable.Goals as goal

shown_as : ℕ → List ℕ
shown_as byte = printable byte ∷ []

pub loop-byte-preserved : goal.loop-byte-preserved
unfolding shown_as
loop-byte-preserved g c =
    let written = rw c.printable.ensures at c.write_bytes.ensures in
    writes_each _ shown_as c.args.bytes.now c.loop-byte.byte-index 0 _ _ _ _ c.loop-byte.invariant written refl (omega arith)

pub returns : goal.returns
unfolding shown_as
returns g c =
    let bytes = c.args.bytes.now in
    let all : c.loop-byte.byte-index ≡ length bytes = omega arith in
    let prefix = ap (λ n. flat_map shown_as (take n bytes)) all in
    let whole : flat_map shown_as (take c.loop-byte.byte-index bytes) ≡ map printable bytes = prefix ∙ ap (flat_map shown_as) (take-length bytes) ∙ one_by_one printable bytes in
    subst (λ written. Writes g.W.Write.contents c.args.text.now c.loop-byte.text written) whole c.loop-byte.invariant
