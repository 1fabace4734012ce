-- The rules of a play on a fleet.
use Rattle.std.specs.Prelude.{◌≡◌, ℕ, Option, List, length, map}
use Rattle.domains.specs.FleetViews.{FleetView}
use Rattle.fleet_states.specs.declared.status.Status.{Status}
use Rattle.play_model.specs.declared.play.Play.{Play}
use Rattle.play_model.specs.declared.size.Size.{Size}
use Rattle.play_model.specs.Sizes.{bound}
use Rattle.play_forecast.specs.PlayPlans.{targets}
use Rattle.rehearse.specs.Stacks.{IsRehearsal, RehearsalView, Rules}

-- the most hosts of each batch of a play for so many hosts, one for each of its sizes
abbrev pub caps_of : List Size → ℕ → List (Option ℕ)
caps_of sizes targeted = map (λ size. bound size targeted) sizes

-- the rules by which a play is rehearsed
abbrev pub rules_of : FleetView → Play → Rules
rules_of fleet play = record {
  fleet = fleet;
  mode = play.on_blocked;
  caps = caps_of play.sizes.items (length (targets fleet play));
  percentage = play.max_fail;
}

-- a rehearsal of the play on the fleet, which begins with these statuses
pub record IsRehearsalOf (fleet : FleetView) (play : Play) (statuses : List Status) (rehearsal : RehearsalView) : Type 0 where
  pub is_rehearsal : IsRehearsal rehearsal
  pub rules : rehearsal.rules ≡ rules_of fleet play
  pub opening : rehearsal.opening ≡ statuses
