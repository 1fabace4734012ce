-- What is written as JSON of the plan of an inventory and a playbook.
use Rattle.std.specs.Prelude.{◌≡◌, ℕ, List, Option}
use Rattle.std.specs.Io.KnownBytes.{Appends}
use Rattle.bounded_io.specs.Sending.{SendsFirst}
use Rattle.domains.specs.FleetViews.{FleetView}
use Rattle.batch_plan.specs.declared.answers.Answer.{Answer}
use Rattle.json_output.specs.PlanJson.{plan_json}
use Rattle.plan_command.specs.Ends.{end_of}
use Rattle.plan_command.specs.PlanTexts.{IsPlanIn, IsTrueFault}
use Rattle.plan_command.specs.declared.end.End.{End}
use Rattle.plan_command.specs.declared.fault.PlanFault.{PlanFault}
use Rattle.plan_command.specs.declared.fault.PlanFault.TheVariants.{Read, Fleet, Playbook, Pattern, Write}

-- the text is the plan of both texts, which ends so
pub record IsPlanJson (inventory playbook : List ℕ) (text : List ℕ) (end : End) : Type 0 where
  pub fleet : FleetView
  pub answer : Answer
  pub held : List ℕ
  pub plan : IsPlanIn inventory playbook fleet answer held
  pub text_is : text ≡ plan_json fleet answer held
  pub ends : end ≡ end_of answer held

-- the plan went out, and nothing else
pub record WritesPlanJson (inventory playbook : List ℕ) (old new : Option (List ℕ)) (end : End) : Type 0 where
  pub text : List ℕ
  pub is : IsPlanJson inventory playbook text end
  pub written : Appends old new text

-- it broke off after so many bytes
pub record BreaksPlanJson (inventory playbook : List ℕ) (old new : Option (List ℕ)) (count : ℕ) : Type 0 where
  pub text : List ℕ
  pub end : End
  pub is : IsPlanJson inventory playbook text end
  pub written : SendsFirst old new text count

-- the texts are refused as for a plan in lines, and nothing went out; or the plan broke off where the fault says
abbrev pub IsTruePlanFault : List ℕ → List ℕ → Option (List ℕ) → Option (List ℕ) → PlanFault → Type 0
IsTruePlanFault inventory playbook old new (Read fault) = IsTrueFault inventory playbook old new (Read fault)
IsTruePlanFault inventory playbook old new (Fleet fault) = IsTrueFault inventory playbook old new (Fleet fault)
IsTruePlanFault inventory playbook old new (Playbook fault) = IsTrueFault inventory playbook old new (Playbook fault)
IsTruePlanFault inventory playbook old new (Pattern fault) = IsTrueFault inventory playbook old new (Pattern fault)
IsTruePlanFault inventory playbook old new (Write fault) = BreaksPlanJson inventory playbook old new fault.written
