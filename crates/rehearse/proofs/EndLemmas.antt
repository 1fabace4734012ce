-- A play ends after as many batches as it has hosts at most.
use Rattle.std.proofs.Common.{◌≡◌, ℕ, ◌+◌, ◌<◌, ◌≤◌, Bool, true, false, Option, Some, None, List, [], ◌∷◌, length, refl, sym, ap, ◌∙◌, arith}
use Rattle.std.specs.Prelude.{is_some}
use Rattle.std.proofs.lemmas.List.FromFn.{length-range_with_len}
use Rattle.std.proofs.lemmas.List.Sums.{count_by-le-length}
use Rattle.std.specs.List.{range_with_len}
use Rattle.fleet_states.specs.Statuses.{is_waiting, status_at}
use Rattle.fleet_states.specs.declared.status.Status.{Status}
use Rattle.play_forecast.specs.declared.end.End.{End}
use Rattle.play_forecast.specs.Courses.{IsBoundary, end_behind, end_here, statuses_behind}
use Rattle.rehearse.specs.declared.stage.Stage.{Stage}
use Rattle.rehearse.specs.CourseSteps.{waiting_in}
use Rattle.rehearse.specs.Kept.{IsKept}
use Rattle.rehearse.specs.Stacks.{AreAbove, RehearsalView, Rules, named_at, top, top_of, where_fail}
use Rattle.group_tree.specs.declared.ids.HostId.{HostId}
use Rattle.rehearse.proofs.CourseLemmas.{fewer_wait}
use Rattle.rehearse.proofs.GoingOnLemmas.{IsGoingOn}

module _ (rules : Rules) where
  -- as long as it has not ended fewer stages stand there than hosts waited
  fewer_stages : (opened : ℕ) (named : List ℕ) (statuses : List Status) (before : Option End) (below : Stage) (above : List Stage) → IsBoundary (where_fail rules named) opened statuses below.boundary
      → below.end ≡ end_here before below.boundary → AreAbove rules opened below above → (top_of below above).end ≡ None → length above < waiting_in statuses
  fewer_stages opened named statuses before below [] is end_is are none =
      let fewer = fewer_wait (where_fail rules named) opened statuses before below.boundary is (sym end_is ∙ none) in
      omega (arith, fewer)
  fewer_stages opened named statuses before below (stage ∷ above) is end_is are none =
      let setting = where_fail rules (named_at stage) in
      let fewer = fewer_wait setting opened statuses before below.boundary is (sym end_is ∙ are.0.went_on) in
      let later = fewer_stages (opened + 1) (named_at stage) (statuses_behind setting below.boundary) (end_behind setting below.boundary) stage above are.0.boundary_is are.0.end_is are.1 none in
      omega (arith, fewer, later)

-- as long as a rehearsal has not ended it advanced by fewer batches than there are hosts
pub fewer_than_hosts : (rehearsal : RehearsalView) → IsKept rehearsal → (top rehearsal).end ≡ None → length rehearsal.above < length rehearsal.rules.fleet.hosts
fewer_than_hosts rehearsal kept none =
    let opens = kept.rehearsed.opens in
    let fewer = fewer_stages rehearsal.rules 0 [] rehearsal.opening None rehearsal.first rehearsal.above opens.boundary_is opens.end_is kept.rehearsed.stands none in
    let most = count_by-le-length (λ h. is_waiting (status_at rehearsal.opening h)) (range_with_len 0 (length rehearsal.opening)) in
    omega (arith, fewer, most, length-range_with_len 0 (length rehearsal.opening), kept.all)

none_from : (end : Option End) → is_some end ≡ false → end ≡ None
none_from (Some end) none = absurd (cc)
none_from None none = refl

pub not_over : (end told : Option End) (some : Bool) → told ≡ end → some ≡ is_some told → some ≡ false → end ≡ None
not_over end told some same is none = sym same ∙ none_from told (sym is ∙ none)

-- where as many advances were to be made as there are hosts the play has ended
pub ends_by : (count : ℕ) (marked : List HostId) (old : RehearsalView) (left : ℕ) (now : RehearsalView) → IsGoingOn count marked old left now → left ≡ 0 → IsKept now
    → length old.rules.fleet.hosts ≤ count → is_some (top now).end ≡ true
ends_by count marked old left now going over kept many = by_end (top now).end refl
  where
    by_end : (end : Option End) → (top now).end ≡ end → is_some end ≡ true
    by_end (Some end) e = refl
    by_end None e =
        let fewer = fewer_than_hosts now kept e in
        absurd (omega (arith, fewer, many, going.many, over, ap (λ (r : RehearsalView). length r.rules.fleet.hosts) going.grown.is))
