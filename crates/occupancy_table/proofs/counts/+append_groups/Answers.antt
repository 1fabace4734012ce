use Rattle.std.proofs.Common.{◌<◌, ◌++◌, ◌∷◌, [], List, length, map, sym, ap, ◌∙◌, refl, arith, rules, subst}
use Rattle.std.proofs.lemmas.List.{map-append}
use Rattle.group_tree.specs.declared.ids.GroupId.{GroupId}
use Rattle.domains.specs.Ids.{group_numbers}
use Rattle.batch_plan.specs.Nodes.{Node, Subtree, nodes_below, side_by_side}
use Rattle.batch_plan.proofs.TreeLemmas.{nodes_below_less}
use Rattle.occupancy_table.proofs.WalkLemmas.{read_more}
use Rattle.occupancy_table.proofs.counts.+append_groups.Goals as goal

pub append_groups-requires : goal.append_groups-requires
append_groups-requires g t c =
    let trees = c.args.trees.now in
    let tree = c.tree-item.result in
    let less : nodes_below tree < length (side_by_side trees) =
    subst (λ (s : Subtree). nodes_below s < length (side_by_side trees)) (sym c.tree-item.is) (nodes_below_less trees c.loop-tree.tree-index tree c.loop-tree-test.true) in
    let smaller : length (side_by_side c.children.result.now) < length (side_by_side trees) = omega (arith, less, ap length c.children.ensures) in
    search rules

pub loop-tree-preserved : goal.loop-tree-preserved
loop-tree-preserved g t c =
    let trees = c.args.trees.now in
    let tree = c.tree-item.result in
    let before = c.loop-tree.groups.items in
    let own = ap (λ (l : List GroupId). group_numbers l) c.in_ok-push.ensures.items ∙ map-append (λ (group : GroupId). group.index) before (c.group.result ∷ [])
    ∙ ap (λ n. group_numbers before ++ n ∷ []) c.group.ensures in
    let below = c.in_ok-append_groups.ensures ∙ ap (λ (nodes : List Node). group_numbers c.push.new.self.items ++ map (λ (node : Node). node.group) nodes) c.children.ensures in
    read_more (λ node. node.group) (λ top node. refl) trees c.loop-tree.tree-index tree c.loop-tree-test.true c.tree-item.is (group_numbers c.args.groups.now.items) (group_numbers before)
    (group_numbers c.push.new.self.items) (group_numbers c.append_groups.new.groups.items) c.loop-tree.invariant own below
