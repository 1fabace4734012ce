use Rattle.std.proofs.Common.{◌≡◌, ℕ, ◌+◌, ◌<◌, ◌++◌, ◌∷◌, [], List, Vec, Global, append_assoc, length, map, take, get_or, sym, ap, ◌∙◌, arith}
use Rattle.std.proofs.lemmas.List.{map-append, take_more}
use Rattle.fleet_states.specs.declared.status.Status.{Status}
use Rattle.fleet_states.specs.declared.status.Status.TheVariants.{Running, Updated}
use Rattle.fleet_states.specs.Statuses.{changed}
use Rattle.domains.specs.FleetViews.{FleetView}
use Rattle.domains.specs.Ids.{host_numbers}
use Rattle.occupancy_table.specs.Columns.{Column, counts_in, planned}
use Rattle.occupancy_table.proofs.CellLemmas.{behind, behind_push, changed_over, planned_push}
use Rattle.occupancy_table.proofs.table.append_batches.Goals as goal

pub loop-place-preserved : goal.loop-place-preserved
loop-place-preserved g c =
    let start = c.args.statuses.now in
    let fleet = c.args.domains.now.fleet in
    let batches = c.args.batches.now in
    let i : ℕ = c.loop-place.place in
    let batch = host_numbers c.at-batch.result.now in
    let invariant = c.loop-place.invariant in
    let here : batch ≡ get_or batches i [] = c.at-batch.ensures in
    let within : i < length batches = omega (arith, c.loop-place-test.true, c.len-place-end.ensures) in
    let more : take (i + 1) batches ≡ take i batches ++ batch ∷ [] = take_more batches i [] within ∙ ap (λ (l : List ℕ). take i batches ++ l ∷ []) (sym here) in
    let before = c.loop-place.statuses in
    let column : Column = record { before = before; batch = batch } in
    let due : Column = record { before = behind start (take i batches); batch = batch } in
    let is_due : column ≡ due = ap (λ (l : List Status). record { before = l; batch = batch }) invariant.statuses in
    let counted = c.in_ok-column.ensures.counted ∙ ap (λ (f : FleetView). counts_in f column) invariant.fleet ∙ ap (counts_in fleet) is_due in
    let one = c.in_ok-column.column in
    let counts : Vec ℕ Global → List ℕ = λ column. column.items in
    let items = ap (map counts) c.in_ok-push.ensures.items ∙ map-append counts c.loop-place.columns.items (one ∷ []) in
    let old = map counts c.args.columns.now.items in
    let so_far = map (counts_in fleet) (planned start (take i batches)) in
    let last = map-append (counts_in fleet) (planned start (take i batches)) (due ∷ []) in
    let all = ap (λ (l : List (List ℕ)). map (counts_in fleet) (planned start l)) more ∙ ap (map (counts_in fleet)) (planned_push start (take i batches) batch) ∙ last in
    record {
      statuses = c.settle.ensures.statuses ∙ ap (changed (λ _. Updated) batch) c.in_ok-column.ensures.statuses ∙ changed_over Running Updated batch before
          ∙ ap (changed (λ _. Updated) batch) invariant.statuses ∙ sym (behind_push start (take i batches) batch) ∙ sym (ap (behind start) more);
      counts = c.settle.ensures.counts;
      fleet = c.settle.ensures.fleet ∙ c.in_ok-column.ensures.fleet ∙ invariant.fleet;
      columns = items ∙ ap (λ (l : List ℕ). map counts c.loop-place.columns.items ++ l ∷ []) counted
          ∙ ap (λ (l : List (List ℕ)). l ++ counts_in fleet due ∷ []) invariant.columns ∙ append_assoc old so_far (counts_in fleet due ∷ []) ∙ ap (λ (l : List (List ℕ)). old ++ l) (sym all);
    }
