use Rattle.std.proofs.Common.{◌≡◌, map}
use Rattle.std.specs.List.{range_with_len}
use Rattle.fleet_index.specs.NumberLists.{list_at}
use Rattle.fleet_index.specs.Ids.{group_lists}
use Rattle.fleet_index.specs.DealOrder.{deal_key}
use Rattle.fleet_index.proofs.deal.list_keys.Given as goal

abbrev pub invariant-loop-host : goal.invariant-loop-host
invariant-loop-host l =
    l.keys.items ≡ map (λ host. (deal_key (list_at (group_lists l.chains) host), host)) (range_with_len 0 l.host)
