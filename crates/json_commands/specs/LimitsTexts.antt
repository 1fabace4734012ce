-- What is written as JSON of the limits of an inventory.
use Rattle.std.specs.Prelude.{ℕ, List, Option}
use Rattle.std.specs.Io.KnownBytes.{Appends, Keeps}
use Rattle.bounded_io.specs.Sending.{SendsFirst}
use Rattle.domains.specs.FleetViews.{FleetView}
use Rattle.json_output.specs.LimitsJson.{fleet_json}
use Rattle.plan_command.specs.PlanTexts.{IsFleetIn, IsUnread}
use Rattle.plan_command.specs.declared.fault.PlanFault.{PlanFault}
use Rattle.plan_command.specs.declared.fault.PlanFault.TheVariants.{Read, Fleet, Playbook, Pattern, Write}

-- the limits of the fleet that the text says went out, and nothing else
pub record WritesLimits (inventory : List ℕ) (old new : Option (List ℕ)) : Type 0 where
  pub fleet : FleetView
  pub built : IsFleetIn inventory fleet
  pub written : Appends old new (fleet_json fleet)

-- they broke off after so many bytes
pub record BreaksLimits (inventory : List ℕ) (old new : Option (List ℕ)) (count : ℕ) : Type 0 where
  pub fleet : FleetView
  pub built : IsFleetIn inventory fleet
  pub written : SendsFirst old new (fleet_json fleet) count

-- what the fault says is true of the text, and nothing went out; or the limits broke off where it says
abbrev pub IsTrueLimitsFault : List ℕ → Option (List ℕ) → Option (List ℕ) → PlanFault → Type 0
IsTrueLimitsFault inventory old new (Read fault) = IsUnread inventory (Read fault) × Keeps old new
IsTrueLimitsFault inventory old new (Fleet fault) = IsUnread inventory (Fleet fault) × Keeps old new
IsTrueLimitsFault inventory old new (Playbook fault) = ⊥
IsTrueLimitsFault inventory old new (Pattern fault) = ⊥
IsTrueLimitsFault inventory old new (Write fault) = BreaksLimits inventory old new fault.written
