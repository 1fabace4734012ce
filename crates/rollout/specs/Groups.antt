-- What the command `plan` does with the inputs that a line names, where it is asked for the groups too.
use Rattle.std.specs.Prelude.{◌≡◌, ◌⊎◌, ℕ, Bool, true, false, codes, List, Option, None, Some, Result, Ok, Err}
use Rattle.std.specs.Str.{bytes_eq}
use Rattle.std.specs.Io.KnownBytes.{Keeps}
use Rattle.command_line.specs.declared.command.Source.{Source}
use Rattle.plan_command.specs.declared.end.End.{End}
use Rattle.plan_command.specs.declared.fault.PlanFault.{PlanFault}
use Rattle.rehearse.specs.declared.course_end.CourseEnd.{CourseEnd}
use Rattle.occupancy_table.specs.declared.color_mode.ColorMode.{ColorMode}
use Rattle.occupancy_table.specs.declared.color_mode.ColorMode.TheVariants.{Plain, Coloured}
use Rattle.plan_occupancy.specs.PlanSurveys.{IsTrueFaultBeside, WritesSurveyedPlan}
use Rattle.plan_occupancy.specs.CourseSurveys.{IsTrueCourseFaultBeside, WritesSurveyedCourse}
use Rattle.rollout.specs.Courses.{PlansOrForesees}
use Rattle.rollout.specs.Inputs.{InputUnreadable, ReadsBoth}
use Rattle.rollout.specs.PlanFaults.{fault_of}
use Rattle.rollout.specs.Status.{status_of_course, status_of_end}
use Rattle.rollout.specs.Systems.{Sources}
use Rattle.rollout.specs.declared.fault.Fault.{Fault}
use Rattle.rollout.specs.declared.status.Status.{Status}

-- tables that are always to be coloured are so, those that never are to be aren't, and else the system says it
abbrev pub IsPaintBy : Bool → Bool → ColorMode → Type 0
IsPaintBy true never paint = paint ≡ Coloured
IsPaintBy false true paint = paint ≡ Plain
IsPaintBy false false paint = Unit {0}

abbrev pub IsPaintOf : Option (List ℕ) → ColorMode → Type 0
IsPaintOf None paint = Unit {0}
IsPaintOf (Some when) paint = IsPaintBy (bytes_eq when (codes "always")) (bytes_eq when (codes "never")) paint

-- the plan of both texts went out with its groups, and the status tells of its end
pub record PrintsSurveyedPlan (paint : ColorMode) (inventory playbook : List ℕ) (old new : Option (List ℕ)) (status : Status) : Type 0 where
  pub end : End
  pub plan : WritesSurveyedPlan inventory playbook paint old new end
  pub tells : status ≡ status_of_end end

-- the course went out with the groups of each play, and the status tells of its end
pub record PrintsSurveyedCourse (paint : ColorMode) (inventory playbook failing : List ℕ) (old new : Option (List ℕ)) (status : Status) : Type 0 where
  pub end : CourseEnd
  pub course : WritesSurveyedCourse inventory playbook failing paint old new end
  pub tells : status ≡ status_of_course end

-- one of them, as it is asked for
abbrev pub PrintsGroups : ColorMode → Option (List ℕ) → List ℕ → List ℕ → Option (List ℕ) → Option (List ℕ) → Status → Type 0
PrintsGroups paint None inventory playbook old new status = PrintsSurveyedPlan paint inventory playbook old new status
PrintsGroups paint (Some failing) inventory playbook old new status = PrintsSurveyedCourse paint inventory playbook failing old new status

-- a fault that is true of both texts or of the names, or of where the text broke off
abbrev pub IsTrueOfGroups : ColorMode → Option (List ℕ) → List ℕ → List ℕ → Option (List ℕ) → Option (List ℕ) → PlanFault → Type 0
IsTrueOfGroups paint None inventory playbook old new cause = IsTrueFaultBeside inventory playbook paint old new cause
IsTrueOfGroups paint (Some failing) inventory playbook old new cause = IsTrueCourseFaultBeside inventory playbook failing paint old new cause

pub record RefusesGroups (paint : ColorMode) (course : Option (List ℕ)) (inventory playbook : List ℕ) (old new : Option (List ℕ)) (fault : Fault) : Type 0 where
  pub cause : PlanFault
  pub is : fault ≡ fault_of cause
  pub is_true : IsTrueOfGroups paint course inventory playbook old new cause

-- both inputs were read, and the text of theirs went out
pub record ShowsGroups (paint : ColorMode) (course : Option (List ℕ)) (sources : Sources) (inventory playbook : Source) (input_old input_new out_old out_new : Option (List ℕ)) (status : Status) : Type 0 where
  pub first : List ℕ
  pub second : List ℕ
  pub texts : ReadsBoth sources inventory playbook input_old input_new first second
  pub prints : PrintsGroups paint course first second out_old out_new status

-- both inputs were read, and the fault is true of their texts or of the names
pub record RefusesSurvey (paint : ColorMode) (course : Option (List ℕ)) (sources : Sources) (inventory playbook : Source) (input_old input_new out_old out_new : Option (List ℕ)) (fault : Fault) : Type 0 where
  pub first : List ℕ
  pub second : List ℕ
  pub texts : ReadsBoth sources inventory playbook input_old input_new first second
  pub refuses : RefusesGroups paint course first second out_old out_new fault

-- the command where it is asked for the groups
abbrev pub Surveys : ColorMode → Option (List ℕ) → Sources → Source → Source → Option (List ℕ) → Option (List ℕ) → Option (List ℕ) → Option (List ℕ) → Result Status Fault → Type 0
Surveys paint course sources inventory playbook input_old input_new out_old out_new (Ok status) =
    ShowsGroups paint course sources inventory playbook input_old input_new out_old out_new status
Surveys paint course sources inventory playbook input_old input_new out_old out_new (Err fault) =
    (InputUnreadable sources inventory playbook input_old input_new fault × Keeps out_old out_new)
    ⊎ RefusesSurvey paint course sources inventory playbook input_old input_new out_old out_new fault

-- the same in the colours that are asked for
pub record SurveysIn (color course : Option (List ℕ)) (sources : Sources) (inventory playbook : Source) (input_old input_new out_old out_new : Option (List ℕ)) (result : Result Status Fault) : Type 0 where
  pub paint : ColorMode
  pub painted : IsPaintOf color paint
  pub surveys : Surveys paint course sources inventory playbook input_old input_new out_old out_new result

-- the command `plan`: with the groups, or without them
abbrev pub PlansBy : Bool → Option (List ℕ) → Option (List ℕ) → Sources → Source → Source → Option (List ℕ) → Option (List ℕ) → Option (List ℕ) → Option (List ℕ) → Result Status Fault → Type 0
PlansBy true color course sources inventory playbook input_old input_new out_old out_new result = SurveysIn color course sources inventory playbook input_old input_new out_old out_new result
PlansBy false color course sources inventory playbook input_old input_new out_old out_new result =
    PlansOrForesees course sources inventory playbook input_old input_new out_old out_new result
