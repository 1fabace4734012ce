use Rattle.group_tree.specs.declared.ids.GroupId.{GroupId}
use Rattle.fleet_index.proofs.ListLemmas.{lent_list}
use Rattle.domains.proofs.lists.chain_at.Goals as goal

pub returns : goal.returns
returns c =
    lent_list (λ (group : GroupId). group.index) c.args.chains.now c.args.host c.index-chains-host.result c.as_slice.result.now c.requires
    c.index-chains-host.is c.as_slice.ensures.value
