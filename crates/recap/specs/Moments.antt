-- When hosts are counted.
use Rattle.std.specs.Prelude.{ℕ}
use Rattle.domains.specs.FleetViews.{FleetView, down_at_start}
use Rattle.fleet_index.specs.NumberLists.{list_at}
use Rattle.fleet_states.specs.Statuses.{down_count}
use Rattle.recap.specs.declared.limits.Moment.{Moment}
use Rattle.recap.specs.declared.limits.Moment.TheVariants.{Start, By}

-- how many hosts of the group are down then
abbrev pub down_then : FleetView → Moment → ℕ → ℕ
down_then fleet Start group = down_at_start fleet group
down_then fleet (By statuses) group = down_count statuses.now (list_at fleet.members group)
