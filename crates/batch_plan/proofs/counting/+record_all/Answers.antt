use Rattle.std.proofs.Common.{◌≡◌, ◌<◌, None, List, length, get_or, sym, ap, ◌∙◌, arith, rules, subst}
use Rattle.batch_plan.specs.Nodes.{Node, Subtree, nodes_below, side_by_side}
use Rattle.batch_plan.proofs.TreeLemmas.{nodes_below_less}
use Rattle.batch_plan.specs.Inside.{told_by}
use Rattle.batch_plan.proofs.ToldLemmas.{told_more}
use Rattle.batch_plan.proofs.counting.+record_all.Goals as goal

pub record_all-requires : goal.record_all-requires
record_all-requires g t c =
    let trees = c.args.trees.now in
    let tree = c.tree-item.result in
    let less : nodes_below tree < length (side_by_side trees) =
    subst (λ (s : Subtree). nodes_below s < length (side_by_side trees)) (sym c.tree-item.is) (nodes_below_less trees c.loop-tree.tree-index tree c.loop-tree-test.true) in
    let smaller : length (side_by_side c.children.result.now) < length (side_by_side trees) = omega (arith, less, ap length c.children.ensures) in
    let long : length c.record_own.new.needs ≡ length c.args.fleet.now.groups = c.record_own.ensures.len ∙ c.loop-tree.invariant.len ∙ c.requires in
    search rules

pub loop-tree-preserved : goal.loop-tree-preserved
loop-tree-preserved g t c =
    let trees = c.args.trees.now in
    let limits = c.args.fleet.now.limits in
    let invariant = c.loop-tree.invariant in
    let own = c.record_own.new.needs in
    record {
      len = c.record_all.ensures.len ∙ c.record_own.ensures.len ∙ invariant.len;
      told = λ group l. told_more limits group trees c.loop-tree.tree-index c.tree-item.result c.loop-tree-test.true c.tree-item.is (get_or c.args.needs.now group None)
          (get_or c.loop-tree.needs group None) (get_or own group None) (get_or c.record_all.new.needs group None) (invariant.told group l)
          (c.record_own.ensures.told group (omega (arith, l, invariant.len)))
          (c.record_all.ensures.told group (omega (arith, l, invariant.len, c.record_own.ensures.len)) ∙ ap (λ (nodes : List Node). told_by limits nodes group (get_or own group None)) c.children.ensures);
    }
