-- The plan with which a run would go on.
use Rattle.std.specs.Prelude.{◌≡◌, ℕ, Option, List}
use Rattle.std.specs.Io.KnownBytes.{Appends, Keeps}
use Rattle.bounded_io.specs.Sending.{SendsFirst}
use Rattle.domains.specs.Ids.{host_numbers}
use Rattle.play_forecast.specs.Courses.{IsPlannedFrom}
use Rattle.play_forecast.specs.PlayPlans.{first_cap}
use Rattle.play_forecast.specs.declared.boundary.Boundary.{Boundary}
use Rattle.plan_command.specs.Ends.{end_of}
use Rattle.plan_command.specs.declared.end.End.{End}
use Rattle.recap.specs.PlanText.{plan_text}
use Rattle.resume_state.specs.declared.inputs.Resumption.{Resumption}
use Rattle.resume_preview.specs.Asked.{GoesOnWith, Question, Refuses}
use Rattle.resume_preview.specs.declared.fault.OutlookFault.{OutlookFault}
use Rattle.resume_preview.specs.declared.fault.OutlookFault.TheVariants.{Resume, Failing, Write}

-- the run goes on, and this is the boundary at which the play does with which it goes on, from the statuses that it has then
pub record IsNextBoundary (asked : Question) (resumption : Resumption) (boundary : Boundary) : Type 0 where
  pub goes : GoesOnWith asked resumption
  pub planned : IsPlannedFrom resumption.fleet goes.gone.first.on_blocked (first_cap resumption.fleet goes.gone.first) resumption.beginning.start.statuses.items boundary

-- the text of its plan, and how planning ends
pub record IsPlan (asked : Question) (text : List ℕ) (end : End) : Type 0 where
  pub resumption : Resumption
  pub boundary : Boundary
  pub is : IsNextBoundary asked resumption boundary
  pub text_is : text ≡ plan_text resumption.fleet boundary.answer (host_numbers boundary.held.items)
  pub ends : end ≡ end_of boundary.answer (host_numbers boundary.held.items)

-- the plan went out, and nothing else
pub record WritesPlan (asked : Question) (old new : Option (List ℕ)) (end : End) : Type 0 where
  pub text : List ℕ
  pub is : IsPlan asked text end
  pub written : Appends old new text

-- it broke off after so many bytes
pub record BreaksPlan (asked : Question) (old new : Option (List ℕ)) (count : ℕ) : Type 0 where
  pub text : List ℕ
  pub end : End
  pub is : IsPlan asked text end
  pub written : SendsFirst old new text count

-- what the fault says is true: the run doesn't go on and nothing went out; or the plan broke off where the fault says
abbrev pub IsTrueOfPlan : Question → Option (List ℕ) → Option (List ℕ) → OutlookFault → Type 0
IsTrueOfPlan asked old new (Resume why) = Refuses asked why × Keeps old new
IsTrueOfPlan asked old new (Failing pattern) = ⊥
IsTrueOfPlan asked old new (Write fault) = BreaksPlan asked old new fault.written
