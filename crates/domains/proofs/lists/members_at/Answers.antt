use Rattle.group_tree.specs.declared.ids.HostId.{HostId}
use Rattle.fleet_index.proofs.ListLemmas.{lent_list}
use Rattle.domains.proofs.lists.members_at.Goals as goal

pub returns : goal.returns
returns c =
    lent_list (λ (host : HostId). host.index) c.args.members.now c.args.group c.index-members-group.result c.as_slice.result.now c.requires
    c.index-members-group.is c.as_slice.ensures.value
