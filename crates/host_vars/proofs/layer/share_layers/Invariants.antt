use Rattle.std.proofs.Common.{◌≡◌, map, take}
use Rattle.host_vars.specs.Tables.{layer_at, layer_views}
use Rattle.host_vars.proofs.layer.share_layers.Given as goal

abbrev pub invariant-loop-place : goal.invariant-loop-place
invariant-loop-place l =
    layer_views l.shared.items ≡ map (layer_at (layer_views l.layers)) (take l.place-index l.places)
