use Rattle.std.proofs.Common.{◌<◌, ◌≡◌, ◌-◌, false, true, sym, ◌∙◌, arith, rules}
use Rattle.group_tree.specs.Names.{same_name}
use Rattle.group_tree.specs.Parts.{groups_below}
use Rattle.group_tree.proofs.Walks.{groups_below-child}
use Rattle.group_tree.proofs.NamesWithin.{names_within-below, names_within-child, names_within-after, names_within-end}
use Rattle.group_tree.proofs.group.Group.+names_within.Goals as goal

pub names_within-requires : goal.names_within-requires
names_within-requires g t c =
    let smaller : groups_below c.child-item.result < groups_below c.args.self.now =
    groups_below-child c.args.self.now c.children-child-items.result.now c.children-child-items.ensures c.loop-child.child-index c.child-item.result c.loop-child-test.true c.child-item.is in
    search rules

pub returns-then-names_within : goal.returns-then-names_within
returns-then-names_within g t c =
    let elsewhere : same_name c.args.name.now c.args.self.now.name ≡ false = cc in
    let found =
    names_within-child c.children-child-items.result.now c.loop-child.child-index c.child-item.result c.loop-child-test.true c.child-item.is c.args.name.now c.loop-child.left
    (cc) in
    names_within-below c.args.self.now c.children-child-items.result.now c.children-child-items.ensures c.args.name.now
    (c.args.count - 1) c.args.count true (omega arith) elsewhere (sym found ∙ c.loop-child.invariant)

pub loop-child-preserved : goal.loop-child-preserved
loop-child-preserved g t c =
    let after =
    names_within-after c.children-child-items.result.now c.loop-child.child-index c.child-item.result c.loop-child-test.true c.child-item.is
    c.args.name.now c.loop-child.left c.groups.result c.groups.ensures.count
    (cc) in
    rw c.saturating_sub-left.ensures (sym after ∙ c.loop-child.invariant)

pub returns : goal.returns
returns g t c =
    let elsewhere : same_name c.args.name.now c.args.self.now.name ≡ false = cc in
    let none = names_within-end c.args.name.now c.loop-child.left c.loop-child.child-index c.children-child-items.result.now c.loop-child-test.false in
    names_within-below c.args.self.now c.children-child-items.result.now c.children-child-items.ensures c.args.name.now
    (c.args.count - 1) c.args.count false (omega arith) elsewhere (sym none ∙ c.loop-child.invariant)
