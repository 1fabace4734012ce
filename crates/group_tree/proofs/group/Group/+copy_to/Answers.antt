use Rattle.std.proofs.Common.{◌<◌, rules}
use Rattle.group_tree.specs.Parts.{groups_below}
use Rattle.group_tree.proofs.Walks.{groups_below-child}
use Rattle.group_tree.proofs.group.Group.+copy_to.Goals as goal

pub copy_to-requires : goal.copy_to-requires
copy_to-requires g t c =
    let smaller : groups_below c.child-item.result < groups_below c.args.self.now =
    groups_below-child c.args.self.now c.children-child-items.result.now c.children-child-items.ensures c.loop-child.child-index c.child-item.result c.loop-child-test.true c.child-item.is in
    search rules
