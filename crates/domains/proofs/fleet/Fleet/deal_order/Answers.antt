use Rattle.std.proofs.Common.{◌≡◌, ◌∙◌, length, ap, subst}
use Rattle.group_tree.specs.declared.ids.HostId.{HostId}
use Rattle.domains.specs.Ids.{host_numbers}
use Rattle.domains.specs.FleetViews.{FleetView, IsSound}
use Rattle.domains.proofs.ReaderLemmas.{dealt_within}
use Rattle.domains.proofs.fleet.Fleet.deal_order.Goals as goal

pub returns : goal.returns
returns c =
    let fleet : FleetView = c.args.self.now in
    let sound : IsSound fleet = subst IsSound c.self.view_is c.self.invariant.sound in
    let order : host_numbers c.as_slice.result.now ≡ fleet.order = ap host_numbers c.as_slice.ensures.value ∙ ap (λ (f : FleetView). f.order) c.self.view_is in
    record { order = order; within = dealt_within (λ (host : HostId). host.index) (length fleet.hosts) fleet.order c.as_slice.result.now order sound.dealt_once; sound = sound }
