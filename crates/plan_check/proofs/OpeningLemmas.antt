-- How a play begins.
use Rattle.std.proofs.Common.{◌≡◌, length, ◌∙◌}
use Rattle.domains.specs.FleetViews.{FleetView}
use Rattle.fleet_states.specs.Starts.{start_statuses}
use Rattle.fleet_states.proofs.StartLemmas.{length-start_statuses}
use Rattle.fleet_states.proofs.StatusLemmas.{length-changed}
use Rattle.fleet_states.specs.declared.status.Status.TheVariants.{Held}
use Rattle.play_model.specs.declared.play.Play.{Play}
use Rattle.play_forecast.specs.PlayPlans.{aside_at_start, first_statuses, targets}

pub first_long : (fleet : FleetView) (play : Play) → length (first_statuses fleet play) ≡ length fleet.hosts
first_long fleet play = length-changed (λ _. Held) (aside_at_start fleet play) (start_statuses fleet (targets fleet play)) ∙ length-start_statuses fleet (targets fleet play)
