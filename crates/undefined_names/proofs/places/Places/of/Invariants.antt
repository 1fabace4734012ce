use Rattle.std.proofs.Common.{take}
use Rattle.undefined_names.specs.Places.{ArePlacesOf}
use Rattle.undefined_names.proofs.places.Places.of.Given as goal

-- those of the steps so far
abbrev pub invariant-loop-place : goal.invariant-loop-place
invariant-loop-place l = ArePlacesOf l.places.names (take l.place l.steps)
