use Rattle.std.proofs.Common.{◌<◌, ◌≡◌, false, rules, sym, ◌∙◌}
use Rattle.group_tree.specs.Names.{same_name}
use Rattle.group_tree.specs.Parts.{groups_below}
use Rattle.group_tree.proofs.Walks.{groups_below-child}
use Rattle.group_tree.proofs.MemberLemmas.{holds-here, holds-child, holds-none}
use Rattle.group_tree.proofs.group.Group.+holds.Goals as goal

pub returns-then-eq : goal.returns-then-eq
returns-then-eq g t c =
    c.lists.ensures ∙ sym (holds-here c.args.self.now c.args.group.now c.args.host.now (cc))

pub holds-requires : goal.holds-requires
holds-requires g t c =
    let smaller : groups_below c.child-item.result < groups_below c.args.self.now =
    groups_below-child c.args.self.now c.children-child-items.result.now c.children-child-items.ensures c.loop-child.child-index c.child-item.result c.loop-child-test.true c.child-item.is in
    search rules

pub returns-then-holds : goal.returns-then-holds
returns-then-holds g t c =
    let elsewhere : same_name c.args.group.now c.args.self.now.name ≡ false = cc in
    holds-child c.args.self.now c.children-child-items.result.now c.children-child-items.ensures c.args.group.now c.args.host.now c.loop-child.child-index
    c.child-item.result elsewhere c.loop-child-test.true c.child-item.is
    (cc)

pub returns : goal.returns
returns g t c =
    let elsewhere : same_name c.args.group.now c.args.self.now.name ≡ false = cc in
    holds-none c.args.self.now c.children-child-items.result.now c.children-child-items.ensures c.args.group.now c.args.host.now c.loop-child.child-index
    elsewhere c.loop-child-test.false c.loop-child.invariant
