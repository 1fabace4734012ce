use Rattle.std.proofs.Common.{◌≡◌, ℕ, ◌+◌, ◌≤◌, ◌<◌, ◌++◌, List, [], drop, get_or, length, nat_lt, sym, ◌∙◌, subst, arith}
use Rattle.std.proofs.lemmas.List.{get_or-drop, length-drop, take_all}
use Rattle.bounded_io.specs.Writing.{Writes}
use Rattle.bounded_io.proofs.WritingLemmas.{writes_two}
use Rattle.domains.specs.FleetViews.{FleetView}
use Rattle.domains.specs.Ids.{host_numbers}
use Rattle.json_output.specs.Arrays.{comma_if, entries_text}
use Rattle.json_output.specs.PlanJson.{names_json}
use Rattle.json_output.proofs.ArrayLemmas.{taken_more}
use Rattle.rehearse.specs.Stacks.{RehearsalView, batches_to}
use Rattle.rehearse.proofs.GoingOnLemmas.{many_batches}
use Rattle.rehearse.proofs.json_batches.write_each_batch.Goals as goal

abbrev batches_behind : RehearsalView → ℕ → List (List ℕ)
batches_behind rehearsal from = drop from (batches_to rehearsal.first rehearsal.above)

pub batch-requires : goal.batch-requires
batch-requires g c = omega (arith, c.loop-place-test.true, c.saturating_sub-place-end.ensures, c.advances.ensures, c.loop-place.auto.place-end)

pub loop-place-preserved : goal.loop-place-preserved
loop-place-preserved g c =
    let r = c.args.rehearsal.now in
    let all : List (List ℕ) = batches_to r.first r.above in
    let behind : List (List ℕ) = batches_behind r c.args.from in
    let i : ℕ = c.loop-place.place in
    let piece : ℕ → List ℕ → List ℕ = λ place hosts. comma_if (nat_lt 0 place) ++ names_json r.rules.fleet hosts in
    let item : List ℕ = host_numbers c.batch.result.now in
    let item_is : item ≡ get_or behind i [] = c.batch.ensures ∙ sym (get_or-drop c.args.from all i []) in
    let within : i < length behind =
    omega (arith, length-drop c.args.from all, many_batches r.first r.above, c.advances.ensures, c.saturating_sub-place-end.ensures, c.loop-place-test.true, c.loop-place.auto.place-end) in
    let entry = subst (λ (f : FleetView). Writes g.W.Write.contents c.loop-place.text c.write_batch.new.text (comma_if (nat_lt 0 i) ++ names_json f item)) c.fleet.ensures c.write_batch.ensures in
    writes_two _ c.args.text.now c.loop-place.text c.write_batch.new.text _ (piece i item) _ c.loop-place.invariant entry (taken_more piece behind i [] item within item_is)

pub returns : goal.returns
returns g c =
    let r = c.args.rehearsal.now in
    let behind : List (List ℕ) = batches_behind r c.args.from in
    let past : length behind ≤ c.loop-place.place =
    omega (arith, length-drop c.args.from (batches_to r.first r.above), many_batches r.first r.above, c.advances.ensures, c.saturating_sub-place-end.ensures, c.loop-place-test.false) in
    subst (λ (hosts : List (List ℕ)). Writes g.W.Write.contents c.args.text.now c.loop-place.text (entries_text (λ place batch. names_json r.rules.fleet batch) hosts))
    (take_all c.loop-place.place behind past) c.loop-place.invariant
