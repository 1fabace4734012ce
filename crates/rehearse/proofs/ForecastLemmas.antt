-- Every play by the rules of a rehearsal goes the rehearsed way.
use Rattle.std.proofs.Common.{◌≡◌, ℕ, zero, suc, ◌+◌, ◌<◌, Bool, true, false, Option, Some, None, List, [], ◌∷◌, length, map, refl, sym, ap, ◌∙◌, subst, arith}
use Rattle.std.proofs.lemmas.Bool.{le-leb}
use Rattle.std.specs.Option.{option_or}
use Rattle.std.specs.Prelude.{if◌then◌else◌}
use Rattle.fleet_index.specs.NumberLists.{has_number}
use Rattle.fleet_states.specs.declared.status.Status.{Status}
use Rattle.fleet_states.proofs.CountLemmas.{count_agree}
use Rattle.fleet_states.specs.Batches.{failed_in, halt, halts_at, is_failed_by, is_past, least_where, statuses_after}
use Rattle.fleet_states.specs.Laws.{AgreeOn}
use Rattle.play_forecast.specs.declared.boundary.Boundary.{Boundary}
use Rattle.play_forecast.specs.declared.end.End.{End}
use Rattle.play_forecast.specs.Courses.{Continues, Goes, IsBoundary, IsPlannedFrom, Setting, end_behind, end_here, end_with, next_batch, statuses_behind}
use Rattle.play_forecast.proofs.CourseLaws.{behind_alike, end_behind_alike}
use Rattle.rehearse.specs.declared.stage.Stage.{Stage}
use Rattle.rehearse.specs.Stacks.{AreAbove, Rules, cap_at, fail_first, named_at, top_of, where_fail}
use Rattle.rehearse.specs.RehearsalLaws.{FailAsNamed, Forecast, IsPlayBy}

-- who fails at the first step has failed by each
failed_by_each : (b : Bool) (step : ℕ) → is_failed_by (if b then Some 0 else None) step ≡ is_failed_by (if b then Some 0 else None) 0
failed_by_each true step = le-leb 0 step (omega arith)
failed_by_each false step = refl

-- so a batch halts at the first step or nowhere, however many steps there are
module _ (named batch : List ℕ) (percentage : Option ℕ) where
  abbrev halts : ℕ → Bool
  halts step = halts_at (fail_first named) batch percentage step

  each_step : (step : ℕ) → halts step ≡ halts 0
  each_step step =
      ap (λ n. is_past percentage n (length batch))
      (count_agree (λ h. is_failed_by (fail_first named h) step) (λ h. is_failed_by (fail_first named h) 0) (λ h. failed_by_each (has_number h named) step) batch)

  abbrev found : Bool → Option ℕ
  found b = if b then Some 0 else None

  more_steps : (steps : ℕ) → least_where halts (suc steps) ≡ found (halts 0)
  more_steps zero = refl
  more_steps (suc steps) =
      ap (λ o. option_or o (if halts (suc steps) then Some (suc steps) else None)) (more_steps steps)
      ∙ ap (λ b. option_or (found (halts 0)) (if b then Some (suc steps) else None)) (each_step (suc steps))
      ∙ by_case (halts 0)
    where
      by_case : (b : Bool) → option_or (found b) (if b then Some (suc steps) else None) ≡ found b
      by_case true = refl
      by_case false = refl

  halt_of_any : (steps : ℕ) → 0 < steps → halt (fail_first named) batch percentage steps ≡ halt (fail_first named) batch percentage 1
  halt_of_any zero some = absurd (omega (arith, some))
  halt_of_any (suc steps) some = more_steps steps ∙ sym (more_steps 0)

-- a play in which the hosts of a batch fail as they were named
module _ (rules : Rules) (setting : Setting) (play : IsPlayBy rules setting) (named : List ℕ) (boundary : Boundary) (agree : AgreeOn (next_batch boundary.answer) setting.fails (fail_first named)) where
  abbrev batch : List ℕ
  batch = next_batch boundary.answer

  same_halt : halt (fail_first named) batch setting.percentage setting.steps ≡ halt (fail_first named) batch rules.percentage 1
  same_halt =
      ap (λ p. halt (fail_first named) batch p setting.steps) play.percentage_is ∙ halt_of_any named batch rules.percentage setting.steps play.some_steps

  same_statuses : statuses_behind setting boundary ≡ statuses_behind (where_fail rules named) boundary
  same_statuses =
      behind_alike setting (fail_first named) boundary agree ∙ ap (λ h. statuses_after h (fail_first named) batch boundary.statuses.items) same_halt

  same_end : end_behind setting boundary ≡ end_behind (where_fail rules named) boundary
  same_end =
      end_behind_alike setting (fail_first named) boundary agree ∙ ap (λ h. end_with h (failed_in (fail_first named) batch h) (length batch)) same_halt

-- boundaries don't depend on who fails
planned_by : (rules : Rules) (setting : Setting) → IsPlayBy rules setting → (named : List ℕ) (opened : ℕ) (statuses : List Status) (boundary : Boundary)
    → IsBoundary (where_fail rules named) opened statuses boundary → IsBoundary setting opened statuses boundary
planned_by rules setting play named opened statuses boundary is =
    subst (λ c. IsPlannedFrom setting.fleet setting.mode c statuses boundary) (sym (play.caps_are opened))
    (subst (λ m. IsPlannedFrom setting.fleet m (cap_at rules.caps opened) statuses boundary) (sym play.mode_is)
    (subst (λ f. IsPlannedFrom f rules.mode (cap_at rules.caps opened) statuses boundary) (sym play.fleet_is) is))

goes_no_further : (found last : Option End) → last ≡ found → Goes found [] last (last ≡ None)
goes_no_further (Some end) last is = (refl, is)
goes_no_further None last is = is

goes_further : (found : Option End) (rest : List Boundary) (last : Option End) {X : Type 0} → found ≡ None → X → Goes found rest last X
goes_further (Some end) rest last none on = absurd (cc)
goes_further None rest last none on = on

module _ (rules : Rules) (setting : Setting) (play : IsPlayBy rules setting) where
  continues : (opened : ℕ) (statuses : List Status) (before : Option End) (below : Stage) (above : List Stage) → IsBoundary setting opened statuses below.boundary → below.end ≡ end_here before below.boundary
      → AreAbove rules opened below above → FailAsNamed setting.fails below above
      → Continues setting opened statuses before (below.boundary ∷ map (λ stage. stage.boundary) above) (top_of below above).end
  continues opened statuses before below [] is ends are fail = (is, goes_no_further (end_here before below.boundary) below.end ends)
  continues opened statuses before below (stage ∷ above) is ends are fail = (
    is,
    goes_further (end_here before below.boundary) _ _ (sym ends ∙ are.0.went_on)
        (continues (opened + 1) (statuses_behind setting below.boundary) (end_behind setting below.boundary) stage above next its_end are.1 fail.1),
  )
    where
      next : IsBoundary setting (opened + 1) (statuses_behind setting below.boundary) stage.boundary
      next =
          subst (λ s. IsBoundary setting (opened + 1) s stage.boundary) (sym (same_statuses rules setting play (named_at stage) below.boundary fail.0))
          (planned_by rules setting play (named_at stage) (opened + 1) _ stage.boundary are.0.boundary_is)

      its_end : stage.end ≡ end_here (end_behind setting below.boundary) stage.boundary
      its_end = are.0.end_is ∙ ap (λ e. end_here e stage.boundary) (sym (same_end rules setting play (named_at stage) below.boundary fail.0))

pub forecast : Forecast
forecast rehearsal is setting play fail =
    continues rehearsal.rules setting play 0 rehearsal.opening None rehearsal.first rehearsal.above
    (planned_by rehearsal.rules setting play [] 0 rehearsal.opening rehearsal.first.boundary is.opens.boundary_is)
    is.opens.end_is is.stands fail
