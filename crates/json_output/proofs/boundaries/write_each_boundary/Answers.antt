use Rattle.std.proofs.Common.{ℕ, ◌++◌, List, nat_lt, subst}
use Rattle.std.proofs.lemmas.List.{take_all}
use Rattle.bounded_io.specs.Writing.{Writes}
use Rattle.bounded_io.proofs.WritingLemmas.{writes_two}
use Rattle.play_forecast.specs.declared.boundary.Boundary.{Boundary}
use Rattle.json_output.specs.Arrays.{comma_if, entries_text}
use Rattle.json_output.specs.PlayJson.{boundary_json}
use Rattle.json_output.proofs.ArrayLemmas.{taken_more}
use Rattle.json_output.proofs.boundaries.write_each_boundary.Goals as goal

pub loop-place-preserved : goal.loop-place-preserved
loop-place-preserved g c =
    let piece : ℕ → Boundary → List ℕ = λ place boundary. comma_if (nat_lt 0 place) ++ boundary_json c.args.fleet.now boundary (nat_lt place c.args.opened) in
    let i : ℕ = c.loop-place.place in
    let boundary : Boundary = c.index-boundaries-place.result in
    writes_two _ c.args.text.now c.loop-place.text c.write_entry.new.text _ (piece i boundary) _ c.loop-place.invariant c.write_entry.ensures
    (taken_more piece c.args.boundaries.now i boundary boundary c.loop-place-test.true c.index-boundaries-place.is)

pub returns : goal.returns
returns g c =
    let all = take_all c.loop-place.place c.args.boundaries.now c.loop-place-test.false in
    subst (λ (l : List Boundary). Writes g.W.Write.contents c.args.text.now c.loop-place.text (entries_text (λ place boundary. boundary_json c.args.fleet.now boundary (nat_lt place c.args.opened)) l)) all c.loop-place.invariant
