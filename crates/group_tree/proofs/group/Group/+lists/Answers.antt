use Rattle.std.proofs.Common.{◌<◌, rules}
use Rattle.group_tree.proofs.MemberLemmas.{is_listed-here, is_listed-child, is_listed-none}
use Rattle.group_tree.proofs.Walks.{groups_below-child}
use Rattle.group_tree.specs.Parts.{groups_below}
use Rattle.group_tree.proofs.group.Group.+lists.Goals as goal

pub returns-then-names_host : goal.returns-then-names_host
returns-then-names_host g t c =
    is_listed-here c.args.self.now c.args.host.now (cc)

pub returns-then-lists : goal.returns-then-lists
returns-then-lists g t c =
    is_listed-child c.args.self.now c.children-child-items.result.now c.children-child-items.ensures c.args.host.now c.loop-child.child-index
    c.child-item.result c.loop-child-test.true c.child-item.is
    (cc)

pub returns : goal.returns
returns g t c =
    is_listed-none c.args.self.now c.children-child-items.result.now c.children-child-items.ensures c.args.host.now c.loop-child.child-index
    (cc) c.loop-child-test.false c.loop-child.invariant

pub lists-requires : goal.lists-requires
lists-requires g t c =
    let smaller : groups_below c.child-item.result < groups_below c.args.self.now =
    groups_below-child c.args.self.now c.children-child-items.result.now c.children-child-items.ensures c.loop-child.child-index c.child-item.result c.loop-child-test.true c.child-item.is in
    search rules
