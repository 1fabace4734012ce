-- Errors and what they name.
use Rattle.std.proofs.Common.{◌≡◌, ◌∙◌, ℕ, true, Option, Some, None, is_some, ap, refl}
use Rattle.cond.specs.Faults.{number_of}
use Rattle.cond.specs.declared.fault.CondFault.{CondFault}
use Rattle.cond.specs.declared.fault.CondFault.TheVariants as cond
use Rattle.group_tree.specs.Names.{Name}
use Rattle.playbook_schema.specs.Breaches.{Spot}
use Rattle.playbook_schema.specs.Checks.{condition}
use Rattle.playbook_schema.specs.Faults.{named_by}
use Rattle.playbook_schema.specs.Places.{spot_of}
use Rattle.playbook_schema.specs.Plays.{spot_at}
use Rattle.playbook_schema.specs.declared.place.Place.{Place}
use Rattle.playbook_schema.specs.declared.place.Place.TheVariants.{Top, OfPlay, OfStep}

pub named_numbered : (spot : Spot) (key : Name) (found : CondFault) → is_some (number_of found) ≡ true → named_by spot key found ≡ Some (condition spot key found)
named_numbered spot key (cond.BadToken at) numbered = refl
named_numbered spot key (cond.Unexpected at) numbered = refl
named_numbered spot key (cond.TooDeep at) numbered = refl
named_numbered spot key (cond.TooLong at) numbered = refl
named_numbered spot key cond.Memory numbered = absurd (cc)

same_spot : (play other : Option ℕ) (step second : ℕ) → play ≡ other → step ≡ second → spot_at play step ≡ spot_at other second
same_spot play other step second e f = ap (λ (p : Option ℕ). spot_at p step) e ∙ ap (λ (n : ℕ). spot_at other n) f

-- the numbers of a place
pub spot_is : (place : Place) (play : Option ℕ) (step : ℕ) → play ≡ (spot_of place).play → step ≡ (spot_of place).step → spot_at play step ≡ spot_of place
spot_is Top play step e f = same_spot play None step 0 e f
spot_is (OfPlay place) play step e f = same_spot play place.told step 0 e f
spot_is (OfStep place) play step e f = same_spot play place.play.told step place.number e f
