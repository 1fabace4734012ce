use Rattle.std.proofs.Common.{length}
use Rattle.group_tree.specs.declared.ids.HostId.{HostId}
use Rattle.domains.specs.FleetViews.{FleetView}
use Rattle.domains.proofs.ReaderLemmas.{lent_within, members_lent}
use Rattle.domains.proofs.fleet.Fleet.members.Goals as goal

pub returns : goal.returns
returns c =
    let fleet : FleetView = c.args.self.now in
    let lent = members_lent c.self.inside fleet c.args.group.index c.index.result.now c.as_slice.result.now c.self.view_is c.self.invariant.sound c.requires c.index.ensures c.as_slice.ensures.value in
    record {
      members = lent.0;
      within = lent_within (λ (host : HostId). host.index) (length fleet.hosts) c.as_slice.result.now lent.1;
      rise = lent.1;
    }
