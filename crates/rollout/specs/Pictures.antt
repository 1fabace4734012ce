-- What the command `plan` does where it is asked for a picture.
use Rattle.std.specs.Prelude.{◌≡◌, ◌⊎◌, ℕ, Bool, true, false, List, Option, None, Some, Result, Ok, Err}
use Rattle.command_line.specs.declared.command.Source.{Source}
use Rattle.play_forecast.specs.declared.boundary.Boundary.{Boundary}
use Rattle.rehearse.specs.declared.course.PlayCourse.{PlayCourse}
use Rattle.rollout.specs.Groups.{PlansBy}
use Rattle.rollout.specs.Systems.{Sources}
use Rattle.rollout.specs.declared.fault.Fault.{Fault}
use Rattle.rollout.specs.declared.fault.Fault.TheVariants.{Input, Memory, Write}
use Rattle.rollout.specs.declared.status.Status.{Status}

abbrev pub boundaries_of : PlayCourse → List Boundary
boundaries_of course = course.boundaries.items

-- why a picture isn't drawn: its file can't be made, or breaks off, or memory is wanting
abbrev pub is_of_picture : Fault → Bool
is_of_picture (Input source fault) = true
is_of_picture (Write fault) = true
is_of_picture Memory = true
is_of_picture fault = false

abbrev pub IsOfPicture : Fault → Type 0
IsOfPicture fault = is_of_picture fault ≡ true

-- what was asked for was printed, and the picture isn't drawn
pub record LosesPicture (groups : Bool) (color course : Option (List ℕ)) (sources : Sources) (inventory playbook : Source) (input_old input_new out_old out_new : Option (List ℕ)) (result : Result Status Fault) : Type 0 where
  pub status : Status
  pub prints : PlansBy groups color course sources inventory playbook input_old input_new out_old out_new (Ok status)
  pub fault : Fault
  pub is : result ≡ Err fault
  pub why : IsOfPicture fault

-- the command `plan`, which draws a picture where one is asked for
abbrev pub PlansDrawn : Option (List ℕ) → Bool → Option (List ℕ) → Option (List ℕ) → Sources → Source → Source → Option (List ℕ) → Option (List ℕ) → Option (List ℕ) → Option (List ℕ) → Result Status Fault → Type 0
PlansDrawn None groups color course sources inventory playbook input_old input_new out_old out_new result =
    PlansBy groups color course sources inventory playbook input_old input_new out_old out_new result
PlansDrawn (Some file) groups color course sources inventory playbook input_old input_new out_old out_new result =
    PlansBy groups color course sources inventory playbook input_old input_new out_old out_new result
    ⊎ LosesPicture groups color course sources inventory playbook input_old input_new out_old out_new result
