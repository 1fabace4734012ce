use Rattle.std.proofs.Common.{◌≤◌}
use Rattle.serde_json.specs.Data.{depth, members_depth}
use Rattle.serde_json.specs.View.{view, members_view}
use Rattle.hints.proofs.places.+add_below.Given as goal

abbrev pub invariant-loop-name : goal.invariant-loop-name
invariant-loop-name l = members_depth (members_view l.name-iterator) ≤ members_depth (members_view l.initial.name-iterator)

abbrev pub decreases-add_below : goal.decreases-add_below
decreases-add_below l = depth (view l.body.now)
