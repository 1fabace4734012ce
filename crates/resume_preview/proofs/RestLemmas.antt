-- The play with which a run goes on.
use Rattle.std.proofs.Common.{◌≡◌, ◌<◌, ◌≤◌, ℕ, suc, List, ◌∷◌, drop, drop-cons, get_or, length, sym, ap, ◌∙◌, subst, arith}
use Rattle.std.proofs.lemmas.List.{length-drop}
use Rattle.fleet_states.specs.declared.status.Status.{Status}
use Rattle.play_forecast.specs.Courses.{IsPlannedFrom}
use Rattle.play_forecast.specs.PlayPlans.{first_cap}
use Rattle.play_forecast.specs.declared.boundary.Boundary.{Boundary}
use Rattle.play_model.specs.declared.play.Play.{Play}
use Rattle.resume_state.specs.declared.inputs.Resumption.{Resumption}
use Rattle.resume_preview.specs.Asked.{GoesOnWith, Question}
use Rattle.resume_preview.specs.Plans.{IsNextBoundary}

-- the first of these plays
pub same_play : (play first : Play) (plays later : List Play) → play ∷ plays ≡ first ∷ later → play ≡ first
same_play play first plays later same = cc

-- plays behind so many
pub some_behind : (before : ℕ) (plays : List Play) → before < length plays → 0 < length (drop before plays)
some_behind before plays some = omega (arith, some, length-drop before plays)

module _ (asked : Question) (resumption : Resumption) (goes : GoesOnWith asked resumption) where
  -- is that which stands behind so many
  pub goes_first : (play : Play) → resumption.beginning.plays_before < length resumption.plays.items → play ≡ get_or resumption.plays.items resumption.beginning.plays_before play → play ≡ goes.gone.first
  goes_first play some at =
      let plays : List Play = resumption.plays.items in
      let before : ℕ = resumption.beginning.plays_before in
      let behind : List Play = drop (suc before) plays in
      same_play play goes.gone.first behind goes.gone.later (ap (λ (p : Play). p ∷ behind) at ∙ sym (drop-cons plays before play some) ∙ goes.gone.on.left)

  -- its boundary
  pub next_boundary : (play : Play) → play ≡ goes.gone.first → (boundary : Boundary) → IsPlannedFrom resumption.fleet play.on_blocked (first_cap resumption.fleet play) resumption.beginning.start.statuses.items boundary
      → IsNextBoundary asked resumption boundary
  next_boundary play is boundary planned =
      record {
        goes = goes;
        planned = subst (λ (p : Play). IsPlannedFrom resumption.fleet p.on_blocked (first_cap resumption.fleet p) resumption.beginning.start.statuses.items boundary) is planned;
      }
