use Rattle.std.proofs.Common.{ℕ, List, flat_map, sym, ap, ◌∙◌, subst, arith, refl}
use Rattle.std.proofs.lemmas.List.{take_all}
use Rattle.std.proofs.lemmas.List.Folds.{flat_map-map}
use Rattle.bounded_io.specs.Writing.{Writes}
use Rattle.bounded_io.proofs.Pieces.{writes_each}
use Rattle.plan_occupancy.specs.Inside.{held_view}
use Rattle.plan_occupancy.specs.Surveys.{held_line}
use Rattle.plan_occupancy.specs.declared.held.HeldHost.{HeldHost}
use Rattle.plan_occupancy.proofs.writing.write_all_held.Goals as goal

pub loop-each-preserved : goal.loop-each-preserved
loop-each-preserved g c =
    writes_each _ (λ (held : HeldHost). held_line c.args.fleet.now (held_view held)) c.args.held.now c.loop-each.each-index _ _ _ _ _ c.loop-each.invariant c.write_held.ensures refl (omega arith)

pub returns : goal.returns
returns g c =
    let piece : HeldHost → List ℕ = λ held. held_line c.args.fleet.now (held_view held) in
    let all = take_all c.loop-each.each-index c.args.held.now c.loop-each-test.false in
    let whole = ap (flat_map piece) all ∙ sym (flat_map-map (held_line c.args.fleet.now) held_view c.args.held.now) in
    subst (λ (l : List ℕ). Writes g.W.Write.contents c.args.text.now c.loop-each.text l) whole c.loop-each.invariant
