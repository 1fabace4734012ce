use Rattle.std.proofs.Common.{◌≡◌, map, take}
use Rattle.fleet_index.specs.Ids.{host_numbers}
use Rattle.fleet_index.proofs.deal.list_deal_order.Given as goal

abbrev pub invariant-loop-key : goal.invariant-loop-key
invariant-loop-key l = host_numbers l.order.items ≡ map (λ key. key.1) (take l.key-index l.key-items)
