use Rattle.std.proofs.Common.{◌≡◌, ℕ, ◌+◌, List, flat_map, length, subst, arith}
use Rattle.std.specs.List.{range_with_len}
use Rattle.bounded_io.specs.Writing.{Writes}
use Rattle.bounded_io.proofs.WritingLemmas.{writes_two}
use Rattle.fleet_index.specs.NumberLists.{list_at}
use Rattle.recap.specs.PlanText.{batch_line}
use Rattle.recap.proofs.PlanLemmas.{lines_more}
use Rattle.recap.proofs.plan.write_batches.Goals as goal

pub loop-place-preserved : goal.loop-place-preserved
loop-place-preserved g c =
    let fleet = c.args.fleet.now in
    let batches = c.args.batches.now in
    let i : ℕ = c.loop-place.place in
    let piece : ℕ → List ℕ = λ place. batch_line fleet (place + 1) (list_at batches place) in
    let line = subst (λ (hosts : List ℕ). Writes g.W.Write.contents c.loop-place.text c.write_batch.new.text (batch_line fleet (i + 1) hosts)) c.at.ensures c.write_batch.ensures in
    writes_two _ c.args.text.now c.loop-place.text c.write_batch.new.text _ (piece i) _ c.loop-place.invariant line (lines_more piece i)

pub returns : goal.returns
returns g c =
    let fleet = c.args.fleet.now in
    let batches = c.args.batches.now in
    let all : c.loop-place.place ≡ length batches = omega (arith, c.loop-place-test.false, c.loop-place.auto.place-end) in
    subst (λ (n : ℕ). Writes g.W.Write.contents c.args.text.now c.loop-place.text (flat_map (λ place. batch_line fleet (place + 1) (list_at batches place)) (range_with_len 0 n))) all c.loop-place.invariant
