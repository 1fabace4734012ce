-- Stages above one another.
use Rattle.std.proofs.Common.{◌≡◌, ℕ, zero, suc, ◌+◌, ◌-◌, ◌<◌, true, Option, Some, None, List, [], ◌∷◌, ◌++◌, length, slice_get, take, refl, sym, ap, ◌∙◌, subst, arith}
use Rattle.std.proofs.lemmas.Option.{same_Some}
use Rattle.group_tree.specs.declared.ids.HostId.{HostId}
use Rattle.fleet_index.specs.NumberLists.{has_number}
use Rattle.domains.specs.Ids.{host_numbers}
use Rattle.fleet_states.specs.declared.status.Status.{Status}
use Rattle.fleet_states.specs.declared.status.Status.TheVariants.{Held}
use Rattle.fleet_states.proofs.StatusLemmas.{length-changed, length-given, waiting_within}
use Rattle.play_forecast.specs.PlayPlans.{aside_by}
use Rattle.fleet_states.specs.Batches.{fails_in, status_after}
use Rattle.fleet_states.specs.Laws.{AgreeOn}
use Rattle.play_forecast.specs.declared.boundary.Boundary.{Boundary}
use Rattle.play_forecast.specs.declared.end.End.{End}
use Rattle.play_forecast.specs.Courses.{IsBoundary, IsPlannedFrom, end_behind, end_here, halt_of, next_batch, statuses_behind}
use Rattle.play_forecast.proofs.OpenedLemmas.{opened_waits}
use Rattle.rehearse.specs.declared.stage.Stage.{Stage}
use Rattle.rehearse.specs.Stacks.{AreAbove, IsBehind, RehearsalView, Rules, cap_at, cut_to, fail_first, first_outside, named_at, pushed, top, top_of, where_fail}
use Rattle.rehearse.specs.Advances.{AreFirstSteps, IsEndOfBatch, halt_by}
use Rattle.rehearse.specs.Kept.{IsKept}
use Rattle.rehearse.proofs.BatchLemmas.{end_is_behind, statuses_are_behind}

module _ (rules : Rules) where
  pub above-push : (opened : ℕ) (below : Stage) (above : List Stage) (stage : Stage) → AreAbove rules opened below above → IsBehind rules (opened + length above) (top_of below above) stage
      → AreAbove rules opened below (above ++ stage ∷ [])
  above-push opened below [] stage are behind = (subst (λ n. IsBehind rules n below stage) (omega arith) behind, tt)
  above-push opened below (next ∷ above) stage are behind =
      (are.0, above-push (opened + 1) next above stage are.1 (subst (λ n. IsBehind rules n (top_of next above) stage) (omega arith) behind))

  pub above-pop : (opened : ℕ) (below : Stage) (above : List Stage) (stage : Stage) → AreAbove rules opened below (above ++ stage ∷ []) → AreAbove rules opened below above
  above-pop opened below [] stage are = tt
  above-pop opened below (next ∷ above) stage are = (are.0, above-pop (opened + 1) next above stage are.1)

  pub above-take : (count opened : ℕ) (below : Stage) (above : List Stage) → AreAbove rules opened below above → AreAbove rules opened below (take count above)
  above-take zero opened below above are = tt
  above-take (suc count) opened below [] are = tt
  above-take (suc count) opened below (stage ∷ above) are = (are.0, above-take count (opened + 1) stage above are.1)

  -- a stage whose boundary was planned for statuses of the whole fleet
  pub record Stands (stage : Stage) : Type 0 where
    pub named : List ℕ
    pub opened : ℕ
    pub statuses : List Status
    pub all : length statuses ≡ length rules.fleet.hosts
    pub is : IsBoundary (where_fail rules named) opened statuses stage.boundary

  pub stands_all : (stage : Stage) → Stands stage → length stage.boundary.statuses.items ≡ length rules.fleet.hosts
  stands_all stage s =
      ap length s.is.statuses_are ∙ length-changed (λ _. Held) (aside_by rules.mode rules.fleet s.statuses) s.statuses ∙ s.all

  -- the hosts of the batch that comes next are hosts of the fleet
  pub stands_within : (stage : Stage) → Stands stage → (host : ℕ) → has_number host (next_batch stage.boundary.answer) ≡ true → host < length rules.fleet.hosts
  stands_within stage s host here =
      subst (λ n. host < n) (stands_all stage s)
      (waiting_within stage.boundary.statuses.items host (opened_waits (where_fail rules s.named) s.opened s.statuses stage.boundary host s.is here))

  next_stands : (opened : ℕ) (below stage : Stage) → Stands below → IsBehind rules opened below stage → Stands stage
  next_stands opened below stage s behind =
      record {
        named = named_at stage;
        opened = opened + 1;
        statuses = statuses_behind (where_fail rules (named_at stage)) below.boundary;
        all = length-given fate (next_batch below.boundary.answer) below.boundary.statuses.items ∙ stands_all below s;
        is = behind.boundary_is;
      }
    where
      fate : ℕ → Status
      fate host = status_after (halt_of (where_fail rules (named_at stage)) (next_batch below.boundary.answer)) (fail_first (named_at stage) host)

  pub top_stands : (opened : ℕ) (below : Stage) (above : List Stage) → Stands below → AreAbove rules opened below above → Stands (top_of below above)
  top_stands opened below [] s are = s
  top_stands opened below (stage ∷ above) s are = top_stands (opened + 1) stage above (next_stands opened below stage s are.0) are.1

pub top_of-push : (below : Stage) (above : List Stage) (stage : Stage) → top_of below (above ++ stage ∷ []) ≡ stage
top_of-push below [] stage = refl
top_of-push below (next ∷ above) stage = top_of-push next above stage

-- the uppermost stage is the last one
pub last_is_top : (below : Stage) (above : List Stage) (i : ℕ) (stage : Stage) → i + 1 ≡ length above → slice_get above i ≡ Some stage → stage ≡ top_of below above
last_is_top below [] i stage at there = absurd (omega (arith, at))
last_is_top below (next ∷ []) zero stage at there = sym (same_Some _ _ there)
last_is_top below (next ∷ []) (suc i) stage at there = absurd (omega (arith, at))
last_is_top below (next ∷ second ∷ above) zero stage at there = absurd (omega (arith, at))
last_is_top below (next ∷ second ∷ above) (suc i) stage at there = last_is_top next (second ∷ above) i stage (omega (arith, at)) there

pub last_stage : (below : Stage) (above : List Stage) (stage : Stage) → slice_get above (length above - 1) ≡ Some stage → stage ≡ top_of below above
last_stage below [] stage there = absurd (cc)
last_stage below (next ∷ above) stage there = last_is_top below (next ∷ above) (length (next ∷ above) - 1) stage (omega arith) there

-- where a rehearsal stands
pub kept_stands : (rehearsal : RehearsalView) → IsKept rehearsal → Stands rehearsal.rules (top rehearsal)
kept_stands rehearsal kept =
    top_stands rehearsal.rules 0 rehearsal.first rehearsal.above
    (record { named = []; opened = 0; statuses = rehearsal.opening; all = kept.all; is = kept.rehearsed.opens.boundary_is })
    kept.rehearsed.stands

-- a rehearsal keeps what it keeps with a stage more, and with one less
pub kept-push : (rehearsal : RehearsalView) (stage : Stage) → IsKept rehearsal → IsBehind rehearsal.rules (length rehearsal.above) (top rehearsal) stage → IsKept (pushed stage rehearsal)
kept-push rehearsal stage kept behind =
    record {
      rehearsed =
          record {
            opens = kept.rehearsed.opens;
            stands = above-push rehearsal.rules 0 rehearsal.first rehearsal.above stage kept.rehearsed.stands (subst (λ n. IsBehind rehearsal.rules n (top rehearsal) stage) (omega arith) behind);
          };
      all = kept.all;
      sizes = kept.sizes;
    }

pub kept-pop : (rehearsal : RehearsalView) (stage : Stage) → IsKept (pushed stage rehearsal) → IsKept rehearsal
kept-pop rehearsal stage kept =
    record {
      rehearsed =
          record {
            opens = kept.rehearsed.opens;
            stands = above-pop rehearsal.rules 0 rehearsal.first rehearsal.above stage kept.rehearsed.stands;
          };
      all = kept.all;
      sizes = kept.sizes;
    }

pub kept-cut : (stages : ℕ) (rehearsal : RehearsalView) → IsKept rehearsal → IsKept (cut_to stages rehearsal)
kept-cut stages rehearsal kept =
    record {
      rehearsed =
          record {
            opens = kept.rehearsed.opens;
            stands = above-take rehearsal.rules stages 0 rehearsal.first rehearsal.above kept.rehearsed.stands;
          };
      all = kept.all;
      sizes = kept.sizes;
    }

-- the stage that an advance makes, from the statuses behind the batch and the boundary to which they lead
module _ (rehearsal : RehearsalView) (kept : IsKept rehearsal) (named : List HostId) (failing : List (Option ℕ))
    (steps : AreFirstSteps (length rehearsal.rules.fleet.hosts) (host_numbers named) failing) where
  abbrev below : Stage
  below = top rehearsal

  agree : AgreeOn (next_batch below.boundary.answer) (fails_in failing) (fail_first (host_numbers named))
  agree host here = steps.each host (stands_within rehearsal.rules below (kept_stands rehearsal kept) host here)

  pub statuses_all : (boundary : Boundary) (statuses : List Status) (end : Option End) → boundary ≡ below.boundary → IsEndOfBatch (fails_in failing) rehearsal.rules.percentage 1 boundary statuses end
      → length statuses ≡ length rehearsal.rules.fleet.hosts
  statuses_all boundary statuses end same is =
      ap length is.statuses_are
      ∙ length-given (λ host. status_after (halt_by (fails_in failing) rehearsal.rules.percentage 1 boundary) (fails_in failing host)) (next_batch boundary.answer) boundary.statuses.items
      ∙ ap (λ (b : Boundary). length b.statuses.items) same ∙ stands_all rehearsal.rules below (kept_stands rehearsal kept)

  pub stage_is_behind : (boundary : Boundary) (statuses : List Status) (ended : Option End) (stage : Stage) → boundary ≡ below.boundary
      → IsEndOfBatch (fails_in failing) rehearsal.rules.percentage 1 boundary statuses ended
      → IsPlannedFrom rehearsal.rules.fleet rehearsal.rules.mode (cap_at rehearsal.rules.caps (length rehearsal.above + 1)) statuses stage.boundary → stage.end ≡ end_here ended stage.boundary
      → stage.failing.items ≡ named → below.end ≡ None → first_outside (next_batch below.boundary.answer) named ≡ None → IsBehind rehearsal.rules (length rehearsal.above) below stage
  stage_is_behind boundary statuses ended stage same is planned end_is named_are went_on in_batch =
      record {
        went_on = went_on;
        in_batch = ap (first_outside (next_batch below.boundary.answer)) named_are ∙ in_batch;
        boundary_is =
            subst (λ n. IsBoundary (where_fail rehearsal.rules n) (length rehearsal.above + 1) (statuses_behind (where_fail rehearsal.rules n) below.boundary) stage.boundary) numbers
            (subst (λ s. IsPlannedFrom rehearsal.rules.fleet rehearsal.rules.mode (cap_at rehearsal.rules.caps (length rehearsal.above + 1)) s stage.boundary) statuses_are planned);
        end_is =
            end_is ∙ ap (λ e. end_here e stage.boundary) ended_is
            ∙ ap (λ n. end_here (end_behind (where_fail rehearsal.rules n) below.boundary) stage.boundary) numbers;
      }
    where
      numbers : host_numbers named ≡ named_at stage
      numbers = ap host_numbers (sym named_are)

      here : IsEndOfBatch (fails_in failing) rehearsal.rules.percentage 1 below.boundary statuses ended
      here = subst (λ b. IsEndOfBatch (fails_in failing) rehearsal.rules.percentage 1 b statuses ended) same is

      statuses_are : statuses ≡ statuses_behind (where_fail rehearsal.rules (host_numbers named)) below.boundary
      statuses_are = here.statuses_are ∙ statuses_are_behind rehearsal.rules (host_numbers named) below.boundary (fails_in failing) agree

      ended_is : ended ≡ end_behind (where_fail rehearsal.rules (host_numbers named)) below.boundary
      ended_is = here.end_is ∙ end_is_behind rehearsal.rules (host_numbers named) below.boundary (fails_in failing) agree

some_not_none : (above : List Stage) (stage : Stage) {X : Type 0} → above ++ stage ∷ [] ≡ [] → X
some_not_none [] stage empty = absurd (cc)
some_not_none (next ∷ above) stage empty = absurd (cc)

abbrev rest_of : List Stage → List Stage
rest_of [] = []
rest_of (stage ∷ above) = above

abbrev first_of : Stage → List Stage → Stage
first_of other [] = other
first_of other (stage ∷ above) = stage

without_last : (above others : List Stage) (stage other : Stage) → above ++ stage ∷ [] ≡ others ++ other ∷ [] → above ≡ others
without_last [] [] stage other same = refl
without_last [] (next ∷ others) stage other same = some_not_none others other (sym (ap rest_of same))
without_last (next ∷ above) [] stage other same = some_not_none above stage (ap rest_of same)
without_last (next ∷ above) (second ∷ others) stage other same =
    ap (λ s. s ∷ above) (ap (first_of next) same) ∙ ap (λ l. second ∷ l) (without_last above others stage other (ap rest_of same))

pub undone_is_before : (old new back : RehearsalView) (named_stage gone : Stage) → new ≡ pushed named_stage old → new ≡ pushed gone back → back ≡ old
undone_is_before old new back named_stage gone grown shrunk =
    let same : pushed gone back ≡ pushed named_stage old = sym shrunk ∙ grown in
    let above : back.above ≡ old.above = without_last back.above old.above gone named_stage (ap (λ (r : RehearsalView). r.above) same) in
    ap (λ (r : RehearsalView). record r { above = back.above }) same ∙ ap (λ (l : List Stage). record old { above = l }) above
