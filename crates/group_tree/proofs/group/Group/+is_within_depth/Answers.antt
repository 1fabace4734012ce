use Rattle.std.proofs.Common.{◌<◌, ◌-◌, arith, rules}
use Rattle.group_tree.specs.Parts.{groups_below}
use Rattle.group_tree.proofs.Walks.{groups_below-child}
use Rattle.group_tree.proofs.Depths.{are_within_depth-child, are_within_depth-all}
use Rattle.group_tree.proofs.group.Group.+is_within_depth.Goals as goal

pub is_within_depth-requires : goal.is_within_depth-requires
is_within_depth-requires g t c =
    let smaller : groups_below c.child-item.result < groups_below c.args.self.now =
    groups_below-child c.args.self.now c.children-child-items.result.now c.children-child-items.ensures c.loop-child.child-index c.child-item.result c.loop-child-test.true c.child-item.is in
    search rules

pub returns-then-not-is_within_depth : goal.returns-then-not-is_within_depth
returns-then-not-is_within_depth g t c =
    are_within_depth-child c.args.self.now c.children-child-items.result.now c.children-child-items.ensures (c.args.depth - 1) c.args.depth
    (omega arith) c.loop-child.child-index c.child-item.result c.loop-child-test.true c.child-item.is (cc)

pub returns : goal.returns
returns g t c =
    are_within_depth-all c.args.self.now c.children-child-items.result.now c.children-child-items.ensures (c.args.depth - 1) c.args.depth
    (omega arith) c.loop-child.child-index c.loop-child-test.false c.loop-child.invariant
