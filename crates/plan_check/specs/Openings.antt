-- How a play begins.
use Rattle.std.specs.Prelude.{◌≡◌, ℕ, List}
use Rattle.domains.specs.FleetViews.{FleetView}
use Rattle.play_model.specs.declared.play.Play.{Play}
use Rattle.play_forecast.specs.PlayPlans.{IsPlanOf, first_cap, first_statuses}
use Rattle.batch_plan.specs.declared.answers.Answer.{Answer}
use Rattle.plan_check.specs.Listings.{batches_of}
use Rattle.plan_check.specs.Shown.{shown}
use Rattle.plan_check.specs.Verdicts.{verdict_on}
use Rattle.plan_check.specs.declared.opening.Opening.{Opening}
use Rattle.plan_check.specs.declared.verdict.Verdict.{Verdict}

pub record IsOpeningOf (fleet : FleetView) (play : Play) (opening : Opening) : Type 0 where
  pub held : List ℕ
  pub plan : IsPlanOf fleet play opening.answer held
  pub statuses : opening.statuses.items ≡ first_statuses fleet play
  pub cap : opening.cap ≡ first_cap fleet play

-- what is told of the batches that a text says, as a plan with which the play begins
pub record IsVerdictOn (fleet : FleetView) (play : Play) (text : List ℕ) (verdict : Verdict) : Type 0 where
  pub answer : Answer
  pub held : List ℕ
  pub plan : IsPlanOf fleet play answer held
  pub is : shown verdict ≡ verdict_on fleet (first_statuses fleet play) (first_cap fleet play) answer (batches_of text)
