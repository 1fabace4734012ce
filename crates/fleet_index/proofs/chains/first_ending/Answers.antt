use Rattle.std.proofs.Common.{rules, length}
use Rattle.group_tree.specs.declared.ids.GroupId.{GroupId}
use Rattle.fleet_index.proofs.RisingLemmas.{number_below}
use Rattle.fleet_index.proofs.chains.first_ending.Goals as goal

pub offset_bounds-subtree_ends-group : goal.offset_bounds-subtree_ends-group
offset_bounds-subtree_ends-group c =
    let below = number_below (λ (group : GroupId). group.index) (length c.args.subtree_ends.now) c.args.groups.now c.loop-group.group-index (record { index = 0 })
    c.requires c.loop-group-test.true in
    search rules

pub bounds-subtree_ends-group : goal.bounds-subtree_ends-group
bounds-subtree_ends-group c =
    number_below (λ (group : GroupId). group.index) (length c.args.subtree_ends.now) c.args.groups.now c.loop-group.group-index (record { index = 0 })
    c.requires c.loop-group-test.true

pub returns-then-subtree_ends-group-clause-within : goal.returns-then-subtree_ends-group-clause-within
returns-then-subtree_ends-group-clause-within c =
    number_below (λ (group : GroupId). group.index) (length c.args.subtree_ends.now) c.args.groups.now c.loop-group.group-index (record { index = 0 })
    c.requires c.loop-group-test.true
