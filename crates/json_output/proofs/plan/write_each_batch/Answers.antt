use Rattle.std.proofs.Common.{◌≤◌, ◌<◌, ℕ, ◌++◌, List, [], length, nat_lt, refl, subst, arith}
use Rattle.std.proofs.lemmas.List.{take_all}
use Rattle.bounded_io.specs.Writing.{Writes}
use Rattle.bounded_io.proofs.WritingLemmas.{writes_two}
use Rattle.fleet_index.specs.NumberLists.{list_at}
use Rattle.json_output.specs.Arrays.{comma_if, entries_text}
use Rattle.json_output.specs.PlanJson.{names_json}
use Rattle.json_output.proofs.ArrayLemmas.{taken_more}
use Rattle.json_output.proofs.plan.write_each_batch.Goals as goal

pub loop-place-preserved : goal.loop-place-preserved
loop-place-preserved g c =
    let batches : List (List ℕ) = c.args.batches.now in
    let i : ℕ = c.loop-place.place in
    let piece : ℕ → List ℕ → List ℕ = λ place hosts. comma_if (nat_lt 0 place) ++ names_json c.args.fleet.now hosts in
    let within : i < length batches = omega (arith, c.loop-place-test.true) in
    let entry = subst (λ (hosts : List ℕ). Writes g.W.Write.contents c.loop-place.text c.write_batch.new.text (piece i hosts)) c.at.ensures c.write_batch.ensures in
    writes_two _ c.args.text.now c.loop-place.text c.write_batch.new.text _ (piece i (list_at batches i)) _ c.loop-place.invariant entry (taken_more piece batches i [] (list_at batches i) within refl)

pub returns : goal.returns
returns g c =
    let batches : List (List ℕ) = c.args.batches.now in
    let past : length batches ≤ c.loop-place.place = omega (arith, c.loop-place-test.false) in
    subst (λ (l : List (List ℕ)). Writes g.W.Write.contents c.args.text.now c.loop-place.text (entries_text (λ place hosts. names_json c.args.fleet.now hosts) l)) (take_all c.loop-place.place batches past)
    c.loop-place.invariant
