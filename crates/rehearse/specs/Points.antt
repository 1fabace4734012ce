-- How a history is kept: by how far its session had come before each command that led on.
use Rattle.std.specs.Prelude.{List, [], ◌∷◌, take}
use Rattle.rehearse.specs.Stacks.{cut_to}
use Rattle.rehearse.specs.Histories.{Place}
use Rattle.rehearse.specs.declared.point.Point.{Point}

-- where a session stood that had come so far, by where it stands
abbrev pub place_at : Point → Place → Place
place_at point place = record { rehearsal = cut_to point.stages place.rehearsal; marked = take point.marks place.marked }

-- where it stood at each of these points, the last one first
abbrev pub places_before : Place → List Point → List Place
places_before place [] = []
places_before place (point ∷ points) = place_at point place ∷ places_before (place_at point place) points
