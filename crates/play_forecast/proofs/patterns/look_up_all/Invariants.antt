use Rattle.std.proofs.Common.{◌≡◌, None, flat_map, take}
use Rattle.std.specs.List.{find}
use Rattle.domains.specs.Patterns.{names_nothing}
use Rattle.play_forecast.specs.PlayPlans.{parts_of_play}
use Rattle.play_forecast.proofs.patterns.look_up_all.Given as goal

abbrev pub invariant-loop-play : goal.invariant-loop-play
invariant-loop-play l = find (names_nothing l.fleet) (flat_map parts_of_play (take l.play-index l.plays)) ≡ None
