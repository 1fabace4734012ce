-- The plays of a file behind so many.
use Rattle.std.proofs.Common.{◌≡◌, ℕ, zero, suc, None, List, [], ◌∷◌, drop, refl}
use Rattle.std.specs.List.{find}
use Rattle.domains.specs.FleetViews.{FleetView}
use Rattle.domains.specs.Patterns.{names_nothing}
use Rattle.play_model.specs.declared.play.Play.{Play}
use Rattle.play_forecast.specs.PlayPlans.{named_parts}
use Rattle.roll_run.proofs.Following.{known_rest}

-- where each part of each pattern names something, so does each part of the patterns of later plays
pub known_from : (fleet : FleetView) (before : ℕ) (plays : List Play)
    → find (names_nothing fleet) (named_parts plays) ≡ None → find (names_nothing fleet) (named_parts (drop before plays)) ≡ None
known_from fleet zero plays known = known
known_from fleet (suc before) [] known = refl
known_from fleet (suc before) (play ∷ rest) known = known_from fleet before rest (known_rest fleet play rest known)
