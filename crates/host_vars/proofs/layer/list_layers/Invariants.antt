use Rattle.std.proofs.Common.{◌≡◌, filter, map, take}
use Rattle.fleet_index.specs.NumberLists.{has_number, list_at}
use Rattle.host_vars.specs.Tables.{group_layer, layer_views}
use Rattle.domains.specs.Walked.{walked_groups}
use Rattle.host_vars.specs.Walked.{walked_at}
use Rattle.host_vars.proofs.layer.list_layers.Given as goal

abbrev pub invariant-loop-number : goal.invariant-loop-number
invariant-loop-number g l =
    layer_views l.layers.items ≡ map (λ number. group_layer (walked_at (walked_groups l.groups) number).0) (filter (λ number. has_number l.host.index (list_at l.fleet.members number)) (take l.number-index l.order))
