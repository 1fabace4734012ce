-- What the commands `limits` and `plan` do where JSON is asked for.
use Rattle.std.specs.Prelude.{◌≡◌, ℕ, List, None, Option, Result, Some}
use Rattle.command_line.specs.declared.command.Source.{Source}
use Rattle.json_commands.specs.CourseTexts.{IsTrueCourseJsonFault, WritesCourseJson}
use Rattle.json_commands.specs.LimitsTexts.{IsTrueLimitsFault, WritesLimits}
use Rattle.json_commands.specs.PlanTexts.{IsTruePlanFault, WritesPlanJson}
use Rattle.plan_command.specs.declared.end.End.{End}
use Rattle.plan_command.specs.declared.fault.PlanFault.{PlanFault}
use Rattle.rehearse.specs.declared.course_end.CourseEnd.{CourseEnd}
use Rattle.rollout.specs.PlanFaults.{fault_of}
use Rattle.rollout.specs.Status.{status_of_course, status_of_end}
use Rattle.rollout.specs.Systems.{Sources}
use Rattle.rollout.specs.Texts.{OverOne, OverTwo}
use Rattle.rollout.specs.declared.fault.Fault.{Fault}
use Rattle.rollout.specs.declared.status.Status.{Status}
use Rattle.rollout.specs.declared.status.Status.TheVariants.{Done}

-- the limits went out
pub record PrintsLimits (inventory : List ℕ) (old new : Option (List ℕ)) (status : Status) : Type 0 where
  pub limits : WritesLimits inventory old new
  pub tells : status ≡ Done

-- what a fault of planning is to the program, where it is true
pub record RefusesSo (IsTrue : PlanFault → Type 0) (fault : Fault) : Type 0 where
  pub cause : PlanFault
  pub is : fault ≡ fault_of cause
  pub is_true : IsTrue cause

-- the fault is true of the inventory, or of where its limits broke off
abbrev pub RefusesLimits : List ℕ → Option (List ℕ) → Option (List ℕ) → Fault → Type 0
RefusesLimits inventory old new = RefusesSo (IsTrueLimitsFault inventory old new)

-- the plan went out, and the status tells whether it leaves hosts out
pub record PrintsPlan (inventory playbook : List ℕ) (old new : Option (List ℕ)) (status : Status) : Type 0 where
  pub end : End
  pub plan : WritesPlanJson inventory playbook old new end
  pub tells : status ≡ status_of_end end

abbrev pub RefusesPlan : List ℕ → List ℕ → Option (List ℕ) → Option (List ℕ) → Fault → Type 0
RefusesPlan inventory playbook old new = RefusesSo (IsTruePlanFault inventory playbook old new)

-- the course went out in which just these hosts fail, and the status is the one that such a run ends with
pub record PrintsCourse (inventory playbook failing : List ℕ) (old new : Option (List ℕ)) (status : Status) : Type 0 where
  pub end : CourseEnd
  pub course : WritesCourseJson inventory playbook failing old new end
  pub tells : status ≡ status_of_course end

abbrev pub RefusesCourse : List ℕ → List ℕ → List ℕ → Option (List ℕ) → Option (List ℕ) → Fault → Type 0
RefusesCourse inventory playbook failing old new = RefusesSo (IsTrueCourseJsonFault inventory playbook failing old new)

-- the command `limits`
abbrev pub TabulatesJson : Sources → Source → Option (List ℕ) → Option (List ℕ) → Option (List ℕ) → Option (List ℕ) → Result Status Fault → Type 0
TabulatesJson sources inventory input_old input_new out_old out_new result =
    OverOne (λ first status. PrintsLimits first out_old out_new status) (λ first fault. RefusesLimits first out_old out_new fault)
    sources inventory input_old input_new out_old out_new result

-- the command `plan`, and where hosts to fail are given, be it nobody, its course
abbrev pub PlansJson : Option (List ℕ) → Sources → Source → Source → Option (List ℕ) → Option (List ℕ) → Option (List ℕ) → Option (List ℕ) → Result Status Fault → Type 0
PlansJson None sources inventory playbook input_old input_new out_old out_new result =
    OverTwo (λ first second status. PrintsPlan first second out_old out_new status) (λ first second fault. RefusesPlan first second out_old out_new fault)
    sources inventory playbook input_old input_new out_old out_new result
PlansJson (Some failing) sources inventory playbook input_old input_new out_old out_new result =
    OverTwo (λ first second status. PrintsCourse first second failing out_old out_new status) (λ first second fault. RefusesCourse first second failing out_old out_new fault)
    sources inventory playbook input_old input_new out_old out_new result
