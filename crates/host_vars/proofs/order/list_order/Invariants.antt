use Rattle.std.proofs.Common.{◌≡◌, map, take}
use Rattle.host_vars.proofs.OrderLemmas.{Key}
use Rattle.host_vars.proofs.order.list_order.Given as goal

abbrev pub invariant-loop-key : goal.invariant-loop-key
invariant-loop-key g l = l.order.items ≡ map (λ (key : Key). key.2) (take l.key-index l.key-items)
