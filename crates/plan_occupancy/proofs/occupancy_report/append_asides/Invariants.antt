use Rattle.std.proofs.Common.{◌≡◌, ◌++◌, flat_map, map, take}
use Rattle.plan_occupancy.specs.Inside.{held_views}
use Rattle.plan_occupancy.specs.Surveys.{aside_at, held_of}
use Rattle.plan_occupancy.proofs.occupancy_report.append_asides.Given as goal

abbrev pub invariant-loop-boundary : goal.invariant-loop-boundary
invariant-loop-boundary l =
    held_views l.held.items ≡ held_views l.initial.held.items ++ flat_map (held_of l.fleet) (map aside_at (take l.boundary-index l.boundaries))
