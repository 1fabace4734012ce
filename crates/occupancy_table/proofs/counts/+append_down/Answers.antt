use Rattle.std.proofs.Common.{◌<◌, ◌++◌, ◌∷◌, [], List, length, map, sym, ap, ◌∙◌, refl, arith, rules, subst}
use Rattle.batch_plan.specs.Nodes.{Node, Subtree, nodes_below, side_by_side}
use Rattle.batch_plan.proofs.TreeLemmas.{nodes_below_less}
use Rattle.occupancy_table.proofs.WalkLemmas.{read_more}
use Rattle.occupancy_table.proofs.counts.+append_down.Goals as goal

pub append_down-requires : goal.append_down-requires
append_down-requires g t c =
    let trees = c.args.trees.now in
    let tree = c.tree-item.result in
    let less : nodes_below tree < length (side_by_side trees) =
    subst (λ (s : Subtree). nodes_below s < length (side_by_side trees)) (sym c.tree-item.is) (nodes_below_less trees c.loop-tree.tree-index tree c.loop-tree-test.true) in
    let smaller : length (side_by_side c.children.result.now) < length (side_by_side trees) = omega (arith, less, ap length c.children.ensures) in
    search rules

pub loop-tree-preserved : goal.loop-tree-preserved
loop-tree-preserved g t c =
    let trees = c.args.trees.now in
    let tree = c.tree-item.result in
    let own = c.in_ok-push.ensures.items ∙ ap (λ n. c.loop-tree.counts.items ++ n ∷ []) c.down.ensures in
    let below = c.in_ok-append_down.ensures ∙ ap (λ (nodes : List Node). c.push.new.self.items ++ map (λ (node : Node). node.down) nodes) c.children.ensures in
    read_more (λ node. node.down) (λ top node. refl) trees c.loop-tree.tree-index tree c.loop-tree-test.true c.tree-item.is c.args.counts.now.items c.loop-tree.counts.items c.push.new.self.items
    c.append_down.new.counts.items c.loop-tree.invariant own below
