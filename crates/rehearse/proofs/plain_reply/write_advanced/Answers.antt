use Rattle.std.proofs.Common.{◌≡◌, ℕ, ◌+◌, ◌-◌, ◌≤◌, ◌<◌, List, [], drop, flat_map, get_or, length, take, sym, ap, ◌∙◌, subst, arith}
use Rattle.std.proofs.lemmas.List.{get_or-drop, length-drop, take_all}
use Rattle.std.specs.Prelude.{codes}
use Rattle.bounded_io.specs.Writing.{Writes}
use Rattle.bounded_io.proofs.Pieces.{writes_each}
use Rattle.domains.specs.FleetViews.{FleetView}
use Rattle.domains.specs.Ids.{host_numbers}
use Rattle.recap.specs.PlanText.{names_line}
use Rattle.rehearse.specs.Stacks.{batches_to}
use Rattle.rehearse.proofs.GoingOnLemmas.{many_batches}
use Rattle.rehearse.proofs.plain_reply.write_advanced.Goals as goal

pub loop-place-preserved : goal.loop-place-preserved
loop-place-preserved g c =
    let r = c.args.rehearsal.now in
    let all : List (List ℕ) = batches_to r.first r.above in
    let from : ℕ = c.args.from in
    let place : ℕ = c.loop-place.place in
    let i : ℕ = place - from in
    let piece : List ℕ → List ℕ = names_line (codes "advanced:") r.rules.fleet in
    let behind : from ≤ place = c.loop-place.invariant.behind in
    let item : List ℕ = host_numbers c.batch.result.now in
    let at : from + i ≡ place = omega (arith, behind) in
    let item_is : item ≡ get_or (drop from all) i [] = c.batch.ensures ∙ ap (λ n. get_or all n []) (sym at) ∙ sym (get_or-drop from all i []) in
    let within : i < length (drop from all) =
    omega (arith, behind, length-drop from all, many_batches r.first r.above, c.advances-place-end.ensures, c.loop-place-test.true, c.loop-place.auto.place-end) in
    let line : Writes g.W.Write.contents c.loop-place.text c.write_names_line.new.text (piece item) =
    subst (λ (f : FleetView). Writes g.W.Write.contents c.loop-place.text c.write_names_line.new.text (names_line (codes "advanced:") f item)) c.fleet.ensures c.write_names_line.ensures in
    let more = writes_each g.W.Write.contents piece (drop from all) i [] item c.args.text.now c.loop-place.text c.write_names_line.new.text c.loop-place.invariant.written line item_is within in
    let count : i + 1 ≡ place + 1 - from = omega (arith, behind) in
    record {
      written = subst (λ (n : ℕ). Writes g.W.Write.contents c.args.text.now c.write_names_line.new.text (flat_map piece (take n (drop from all)))) count more;
      behind = omega (arith, behind);
    }

pub returns : goal.returns
returns g c =
    let r = c.args.rehearsal.now in
    let all : List (List ℕ) = batches_to r.first r.above in
    let from : ℕ = c.args.from in
    let place : ℕ = c.loop-place.place in
    let whole : length (drop from all) ≤ place - from =
    omega (arith, c.loop-place.invariant.behind, length-drop from all, many_batches r.first r.above, c.advances-place-end.ensures, c.loop-place-test.false) in
    subst (λ (l : List (List ℕ)). Writes g.W.Write.contents c.args.text.now c.loop-place.text (flat_map (names_line (codes "advanced:") r.rules.fleet) l))
    (take_all (place - from) (drop from all) whole) c.loop-place.invariant.written
