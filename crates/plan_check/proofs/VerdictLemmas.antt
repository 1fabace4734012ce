-- What is told of batches, as it is made.
use Rattle.std.proofs.Common.{◌≡◌, ℕ, Option, None, List, length, sym, ap, ◌∙◌}
use Rattle.std.specs.Prelude.{Result, Ok, Err, IfOk}
use Rattle.std.specs.declared.alloc.AllocError.{AllocError}
use Rattle.std.proofs.lemmas.List.{length-map}
use Rattle.group_tree.specs.Names.{Name}
use Rattle.domains.specs.FleetViews.{FleetView}
use Rattle.fleet_states.specs.declared.status.Status.{Status}
use Rattle.batch_plan.specs.declared.answers.Answer.{Answer}
use Rattle.batch_plan.specs.declared.answers.Answer.TheVariants.{Planned}
use Rattle.batch_plan.specs.declared.answers.Plan.{Plan}
use Rattle.play_model.specs.declared.play.Play.{Play}
use Rattle.play_forecast.specs.PlayPlans.{first_cap, first_statuses}
use Rattle.plan_check.specs.Listings.{batches_of}
use Rattle.plan_check.specs.Names.{batches_named, nobody_in, numbers_named}
use Rattle.plan_check.specs.Openings.{IsOpeningOf, IsVerdictOn}
use Rattle.plan_check.specs.Shown.{shown}
use Rattle.plan_check.specs.Verdicts as verdicts
use Rattle.plan_check.specs.Verdicts.{judged, verdict_by, verdict_on}
use Rattle.plan_check.specs.PlanErrors.{first_plan_error}
use Rattle.plan_check.specs.declared.opening.Opening.{Opening}
use Rattle.plan_check.specs.declared.verdict.Verdict.{Verdict}

pub same_ok : (result : Result Verdict AllocError) (told other : verdicts.Verdict) → IfOk result (λ v. shown v ≡ told) → told ≡ other → IfOk result (λ v. shown v ≡ other)
same_ok (Ok v) told other is same = is ∙ same
same_ok (Err e) told other is same = is

-- batches of known hosts
pub known_told : (fleet : FleetView) (statuses : List Status) (cap : Option ℕ) (least : ℕ) (names : List (List Name)) (found : List (List ℕ)) → nobody_in fleet names ≡ None
    → found ≡ batches_named fleet names → verdict_by (length found) least (first_plan_error fleet statuses cap found) ≡ judged fleet statuses cap least names (nobody_in fleet names)
known_told fleet statuses cap least names found none is =
    ap (λ (l : List (List ℕ)). verdict_by (length l) least (first_plan_error fleet statuses cap l)) is
    ∙ ap (λ n. verdict_by n least (first_plan_error fleet statuses cap (batches_named fleet names))) (length-map names (numbers_named fleet))
    ∙ sym (ap (judged fleet statuses cap least names) none)

-- a play that begins so
module _ (fleet : FleetView) (play : Play) (text : List ℕ) (opening : Opening) (is : IsOpeningOf fleet play opening) where
  at_start : (answer : Answer) → verdict_on fleet opening.statuses.items opening.cap answer (batches_of text)
      ≡ verdict_on fleet (first_statuses fleet play) (first_cap fleet play) answer (batches_of text)
  at_start answer =
      ap (λ (l : List Status). verdict_on fleet l opening.cap answer (batches_of text)) is.statuses
      ∙ ap (λ (o : Option ℕ). verdict_on fleet (first_statuses fleet play) o answer (batches_of text)) is.cap

  pub told_on : (verdict : Verdict) (answer : Answer) → opening.answer ≡ answer → shown verdict ≡ verdict_on fleet opening.statuses.items opening.cap answer (batches_of text)
      → IsVerdictOn fleet play text verdict
  told_on verdict answer same told = record {
    answer = opening.answer;
    held = is.held;
    plan = is.plan;
    is = told ∙ ap (λ (a : Answer). verdict_on fleet opening.statuses.items opening.cap a (batches_of text)) (sym same) ∙ at_start opening.answer;
  }

  pub planned_ok : (result : Result Verdict AllocError) (plan : Plan) → opening.answer ≡ Planned plan
      → IfOk result (λ v. shown v ≡ judged fleet opening.statuses.items opening.cap (length plan.batches) (batches_of text) (nobody_in fleet (batches_of text)))
      → IfOk result (IsVerdictOn fleet play text)
  planned_ok (Ok v) plan same told = told_on v (Planned plan) same told
  planned_ok (Err e) plan same told = told
