use Rattle.std.proofs.Common.{◌≡◌, ℕ, ◌+◌, nat_lt, List, length, take, sym, subst, arith}
use Rattle.std.proofs.lemmas.List.{take_all}
use Rattle.bounded_io.specs.Writing.{Writes}
use Rattle.bounded_io.proofs.WritingLemmas.{writes_two}
use Rattle.play_forecast.specs.declared.boundary.Boundary.{Boundary}
use Rattle.recap.specs.RecapText.{boundary_lines, boundary_text}
use Rattle.recap.proofs.PlaceLemmas.{text_more}
use Rattle.recap.proofs.boundaries.write_boundaries.Goals as goal

pub loop-place-preserved : goal.loop-place-preserved
loop-place-preserved g c =
    let piece : ℕ → Boundary → List ℕ = λ place boundary. boundary_text c.args.fleet.now (place + 1) boundary (nat_lt place c.args.opened) in
    let i : ℕ = c.loop-place.place in
    writes_two _ c.args.text.now c.loop-place.text c.write_boundary.new.text _ (piece i c.index-boundaries-place.result) _ c.loop-place.invariant c.write_boundary.ensures
    (text_more piece c.args.boundaries.now i c.index-boundaries-place.result c.loop-place-test.true c.index-boundaries-place.is)

pub returns : goal.returns
returns g c =
    let all = take_all c.loop-place.place c.args.boundaries.now c.loop-place-test.false in
    subst (λ (l : List Boundary). Writes g.W.Write.contents c.args.text.now c.loop-place.text (boundary_lines c.args.fleet.now c.args.opened l)) all c.loop-place.invariant
