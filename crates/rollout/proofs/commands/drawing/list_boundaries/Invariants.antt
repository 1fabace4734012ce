use Rattle.std.proofs.Common.{◌≡◌, map, take}
use Rattle.rollout.specs.Pictures.{boundaries_of}
use Rattle.rollout.proofs.commands.drawing.list_boundaries.Given as goal

abbrev pub invariant-loop-course : goal.invariant-loop-course
invariant-loop-course l = map (λ boundaries. boundaries.now) l.lists.items ≡ map boundaries_of (take l.course-index l.courses)
