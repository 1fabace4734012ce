-- What `plan --groups` writes of the texts of an inventory and a playbook.
use Rattle.std.specs.Prelude.{◌≡◌, ℕ, Option, List, ◌++◌}
use Rattle.std.specs.Io.KnownBytes.{Appends}
use Rattle.bounded_io.specs.Sending.{SendsFirst}
use Rattle.domains.specs.FleetViews.{FleetView}
use Rattle.batch_plan.specs.declared.answers.Answer.{Answer}
use Rattle.play_forecast.specs.PlayPlans.{first_statuses}
use Rattle.recap.specs.PlanText.{plan_text}
use Rattle.plan_command.specs.Ends.{end_of}
use Rattle.plan_command.specs.PlanTexts.{IsPlanIn, IsTrueFault}
use Rattle.plan_command.specs.declared.end.End.{End}
use Rattle.plan_command.specs.declared.fault.PlanFault.{PlanFault}
use Rattle.plan_command.specs.declared.fault.PlanFault.TheVariants.{Read, Fleet, Playbook, Pattern, Write}
use Rattle.occupancy_table.specs.declared.color_mode.ColorMode.{ColorMode}
use Rattle.plan_occupancy.specs.Surveys.{plan_outlook, survey_text}

-- the plan of both texts, and below its text what is told of the groups
pub record IsSurveyedPlan (inventory playbook : List ℕ) (paint : ColorMode) (text : List ℕ) (end : End) : Type 0 where
  pub fleet : FleetView
  pub answer : Answer
  pub held : List ℕ
  pub plan : IsPlanIn inventory playbook fleet answer held
  pub text_is : text ≡ plan_text fleet answer held ++ survey_text paint fleet (plan_outlook (first_statuses fleet plan.plan.plan.first) answer held)
  pub ends : end ≡ end_of answer held

-- that text went out, and nothing else
pub record WritesSurveyedPlan (inventory playbook : List ℕ) (paint : ColorMode) (old new : Option (List ℕ)) (end : End) : Type 0 where
  pub text : List ℕ
  pub is : IsSurveyedPlan inventory playbook paint text end
  pub written : Appends old new text

-- it broke off after so many bytes
pub record BreaksSurveyedPlan (inventory playbook : List ℕ) (paint : ColorMode) (old new : Option (List ℕ)) (count : ℕ) : Type 0 where
  pub text : List ℕ
  pub end : End
  pub is : IsSurveyedPlan inventory playbook paint text end
  pub written : SendsFirst old new text count

-- what the fault says is true: both texts are refused as the plan refuses them, or the text broke off where the fault says
abbrev pub IsTrueFaultBeside : List ℕ → List ℕ → ColorMode → Option (List ℕ) → Option (List ℕ) → PlanFault → Type 0
IsTrueFaultBeside inventory playbook paint old new (Write fault) = BreaksSurveyedPlan inventory playbook paint old new fault.written
IsTrueFaultBeside inventory playbook paint old new (Read fault) = IsTrueFault inventory playbook old new (Read fault)
IsTrueFaultBeside inventory playbook paint old new (Fleet fault) = IsTrueFault inventory playbook old new (Fleet fault)
IsTrueFaultBeside inventory playbook paint old new (Playbook fault) = IsTrueFault inventory playbook old new (Playbook fault)
IsTrueFaultBeside inventory playbook paint old new (Pattern fault) = IsTrueFault inventory playbook old new (Pattern fault)
