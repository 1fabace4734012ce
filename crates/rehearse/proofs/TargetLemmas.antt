-- How many hosts a play is for.
use Rattle.std.proofs.Common.{◌≤◌, length}
use Rattle.std.specs.List.{list_any}
use Rattle.batch_plan.proofs.WhereLemmas.{length-where}
use Rattle.domains.specs.FleetViews.{FleetView}
use Rattle.domains.specs.Patterns.{is_named_by}
use Rattle.play_forecast.specs.PlayPlans.{parts_of_play, targets}
use Rattle.play_model.specs.declared.play.Play.{Play}

-- no more than there are
pub few_targets : (fleet : FleetView) (play : Play) → length (targets fleet play) ≤ length fleet.hosts
few_targets fleet play = length-where (λ host. list_any (is_named_by fleet host) (parts_of_play play)) (length fleet.hosts)
