-- What `check` writes of the texts of an inventory, a playbook and a plan.
use Rattle.std.specs.Prelude.{◌≡◌, ℕ, Option, None, Some, List}
use Rattle.std.specs.Io.KnownBytes.{Appends, Keeps}
use Rattle.bounded_io.specs.Sending.{SendsFirst}
use Rattle.domains.specs.FleetViews.{FleetView}
use Rattle.batch_plan.specs.declared.answers.Answer.{Answer}
use Rattle.play_model.specs.declared.play.Play.{Play}
use Rattle.play_forecast.specs.PlayPlans.{first_cap, first_statuses}
use Rattle.plan_command.specs.PlanTexts as plans
use Rattle.plan_command.specs.PlanTexts.{ArePlaysIn, IsFleetIn, IsPlanIn}
use Rattle.plan_command.specs.declared.fault.PlanFault.TheVariants.{Read, Fleet, Playbook, Pattern, Write}
use Rattle.plan_check.specs.Listings.{bad_line, batches_of}
use Rattle.plan_check.specs.Verdicts.{Verdict, end_of, verdict_on}
use Rattle.plan_check.specs.VerdictText.{verdict_text}
use Rattle.plan_check.specs.declared.end.CheckEnd.{CheckEnd}
use Rattle.plan_check.specs.declared.fault.CheckFault.{CheckFault}
use Rattle.plan_check.specs.declared.fault.CheckFault.TheVariants.{Plan, BadPlan}

-- what is told of the batches that the third text says, as a plan with which the first play begins that the two others say
pub record IsVerdictIn (inventory playbook plan : List ℕ) (fleet : FleetView) (verdict : Verdict) : Type 0 where
  pub answer : Answer
  pub held : List ℕ
  pub planned : IsPlanIn inventory playbook fleet answer held
  pub lines : bad_line plan ≡ None
  pub verdict_is : verdict ≡ verdict_on fleet (first_statuses fleet planned.plan.plan.first) (first_cap fleet planned.plan.plan.first) answer (batches_of plan)

-- the text of it, and how the check ends
pub record IsCheckText (inventory playbook plan text : List ℕ) (end : CheckEnd) : Type 0 where
  pub fleet : FleetView
  pub verdict : Verdict
  pub is : IsVerdictIn inventory playbook plan fleet verdict
  pub text_is : text ≡ verdict_text fleet verdict
  pub ends : end ≡ end_of verdict

-- that text went out, and nothing else
pub record WritesCheck (inventory playbook plan : List ℕ) (old new : Option (List ℕ)) (end : CheckEnd) : Type 0 where
  pub text : List ℕ
  pub is : IsCheckText inventory playbook plan text end
  pub written : Appends old new text

-- it broke off after so many bytes
pub record BreaksCheck (inventory playbook plan : List ℕ) (old new : Option (List ℕ)) (count : ℕ) : Type 0 where
  pub text : List ℕ
  pub end : CheckEnd
  pub is : IsCheckText inventory playbook plan text end
  pub written : SendsFirst old new text count

-- inventory and playbook are accepted, and the line of this number is the first of the third text that is none of a plan
pub record IsBadPlan (inventory playbook plan : List ℕ) (line : ℕ) : Type 0 where
  pub fleet : FleetView
  pub plays : List Play
  pub built : IsFleetIn inventory fleet
  pub are : ArePlaysIn fleet playbook plays
  pub bad : bad_line plan ≡ Some line

-- what the fault says is true: inventory and playbook are refused as a plan refuses them; or they are accepted and a line of the third text is refused; nothing went out then; or the text
-- broke off where the fault says
abbrev pub IsTrueFault : List ℕ → List ℕ → List ℕ → Option (List ℕ) → Option (List ℕ) → CheckFault → Type 0
IsTrueFault inventory playbook plan old new (BadPlan line) = IsBadPlan inventory playbook plan line × Keeps old new
IsTrueFault inventory playbook plan old new (Plan (Write fault)) = BreaksCheck inventory playbook plan old new fault.written
IsTrueFault inventory playbook plan old new (Plan (Read fault)) = plans.IsTrueFault inventory playbook old new (Read fault)
IsTrueFault inventory playbook plan old new (Plan (Fleet fault)) = plans.IsTrueFault inventory playbook old new (Fleet fault)
IsTrueFault inventory playbook plan old new (Plan (Playbook fault)) = plans.IsTrueFault inventory playbook old new (Playbook fault)
IsTrueFault inventory playbook plan old new (Plan (Pattern fault)) = plans.IsTrueFault inventory playbook old new (Pattern fault)
