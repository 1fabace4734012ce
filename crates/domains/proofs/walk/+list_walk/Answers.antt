use Rattle.std.proofs.Common.{ℕ, ◌+◌, ◌<◌, ◌^◌, List, [], ◌∷◌, ◌++◌, length, sym, ap, ◌∙◌, subst, arith, rules, append_assoc, append-nil}
use Rattle.std.proofs.lemmas.List.{take_all}
use Rattle.group_tree.specs.Subtrees.{Subtree, side_by_side}
use Rattle.domains.specs.Walks.{IsWalkOf}
use Rattle.domains.proofs.WalkLemmas.{walk_none, walk_more, walk_group, smaller_child, after_push}
use Rattle.domains.proofs.walk.+list_walk.Goals as goal

pub loop-child-init : goal.loop-child-init
loop-child-init g t c = ([], sym (append-nil _), walk_none (c.args.depth + 1))

pub overflow_add-depth : goal.overflow_add-depth
overflow_add-depth g t c =
    let smaller : length c.child-item.result.below.places < length c.args.group.now.below.places =
    smaller_child c.args.group.now c.children-child-items.result.now c.children-child-items.ensures c.loop-child.child-index c.child-item.result c.loop-child-test.true c.child-item.is in
    omega arith

pub list_walk-requires : goal.list_walk-requires
list_walk-requires g t c =
    let smaller : length c.child-item.result.below.places < length c.args.group.now.below.places =
    smaller_child c.args.group.now c.children-child-items.result.now c.children-child-items.ensures c.loop-child.child-index c.child-item.result c.loop-child-test.true c.child-item.is in
    let room : (c.args.depth + 1) + length c.child-item.result.below.places < 2 ^ 64 = omega arith in
    search rules

pub loop-child-preserved : goal.loop-child-preserved
loop-child-preserved g t c =
    let before = c.loop-child.invariant in
    let more = c.in_ok-list_walk.ensures in
    let all = more.1 ∙ ap (λ (l : List (Subtree × ℕ)). l ++ more.0) before.1 ∙ append_assoc _ before.0 more.0 in
    let children = c.children-child-items.result.now in
    let i : ℕ = c.loop-child.child-index in
    (before.0 ++ more.0, all, walk_more children i c.child-item.result (c.args.depth + 1) before.0 more.0 c.loop-child-test.true c.child-item.is before.2 more.2)

pub returns : goal.returns
returns g t c =
    let before = c.loop-child.invariant in
    let children = c.children-child-items.result.now in
    let all : IsWalkOf (side_by_side children) (c.args.depth + 1) before.0 =
    subst (λ (l : List Subtree). IsWalkOf (side_by_side l) (c.args.depth + 1) before.0) (take_all c.loop-child.child-index children c.loop-child-test.false) before.2 in
    let pushed = after_push _ c.args.groups.now.items c.push.new.self.items _ before.0 _ c.in_ok-push.ensures.items before.1 in
    let walk = walk_group c.args.group.now children c.args.depth before.0 c.children-child-items.ensures all in
    ((c.args.group.now, c.args.depth) ∷ before.0, pushed, walk)
