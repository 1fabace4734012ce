use Rattle.std.proofs.Common.{◌<◌, ◌-◌, length, arith, rules}
use Rattle.group_tree.specs.Subtrees.{places_of}
use Rattle.group_tree.specs.Parts.{groups_below}
use Rattle.group_tree.proofs.Walks.{groups_below-child}
use Rattle.group_tree.proofs.Nth.{IsGroupAt-itself, IsGroupAt-child, nth-after, places-after}
use Rattle.group_tree.proofs.group.Group.+nth.Goals as goal

pub nth-requires : goal.nth-requires
nth-requires g t c =
    let smaller : groups_below c.child-item.result < groups_below c.args.self.now =
    groups_below-child c.args.self.now c.children-child-items.result.now c.children-child-items.ensures c.loop-child.child-index c.child-item.result c.loop-child-test.true c.child-item.is in
    search rules

pub returns-then-left-groups-clause-at : goal.returns-then-left-groups-clause-at
returns-then-left-groups-clause-at g t c =
    let inside : c.loop-child.left < length (places_of c.child-item.result) = omega (arith, c.groups-groups.ensures.count) in
    IsGroupAt-child c.args.self.now c.children-child-items.result.now c.children-child-items.ensures c.loop-child.child-index c.child-item.result
    c.loop-child-test.true c.child-item.is c.loop-child.left
    (c.args.index - 1) c.args.index c.in_ok-group.group.now c.in_ok-group.depth (omega arith) c.loop-child.invariant.same inside c.in_ok-group.ensures.at

pub loop-child-preserved : goal.loop-child-preserved
loop-child-preserved g t c =
    let cs = c.children-child-items.result.now in
    let after = places-after c.args.self.now cs c.children-child-items.ensures c.loop-child.child-index c.child-item.result c.loop-child-test.true c.child-item.is in
    record {
      same =
          nth-after c.args.self.now cs c.children-child-items.ensures c.loop-child.child-index c.child-item.result c.loop-child-test.true c.child-item.is c.loop-child.left
          (c.args.index - 1) c.groups-groups.result c.groups-groups.ensures.count (omega arith) c.loop-child.invariant.same;
      counted = omega (arith, c.loop-child.invariant.counted);
      lower = omega (arith, c.loop-child.invariant.lower);
    }

pub returns-then-index-eq0-clause-at : goal.returns-then-index-eq0-clause-at
returns-then-index-eq0-clause-at g t c = IsGroupAt-itself c.args.self.now c.args.index c.if-index-eq0.true
