use Rattle.std.proofs.Common.{◌≡◌, length}
use Rattle.host_vars.specs.Tables.{layer_views, last_value}
use Rattle.host_vars.proofs.host.last_value.Given as goal

abbrev pub invariant-loop-layer : goal.invariant-loop-layer
invariant-loop-layer l = last_value l.name (layer_views l.left) ≡ last_value l.name (layer_views l.layers)

abbrev pub decreases-loop-layer : goal.decreases-loop-layer
decreases-loop-layer l = length l.left
