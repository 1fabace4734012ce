use Rattle.std.proofs.Common.{ap, ◌∙◌}
use Rattle.group_tree.specs.declared.ids.HostId.{HostId}
use Rattle.domains.specs.Ids.{host_numbers}
use Rattle.domains.specs.FleetViews.{FleetView}
use Rattle.batch_plan.proofs.CountedLemmas.{waiting_more}
use Rattle.batch_plan.proofs.counting.list_waiting.Goals as goal

pub loop-host-preserved : goal.loop-host-preserved
loop-host-preserved g c =
    let counted = c.args.domains.now in
    let items = c.deal_order-host-items.result.now in
    let none : HostId = record { index = 0 } in
    let lent = c.deal_order-host-items.ensures.order ∙ ap (λ (f : FleetView). f.order) c.fleet.ensures in
    waiting_more counted.places counted.fleet.order items c.loop-host.host-index none (host_numbers c.loop-host.hosts.items) (host_numbers c.push_waiting.new.hosts.items)
    c.place.result lent c.loop-host-test.true c.loop-host.invariant c.place.ensures c.in_ok-push_waiting.ensures
