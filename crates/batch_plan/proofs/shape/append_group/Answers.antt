use Rattle.std.proofs.Common.{◌≡◌, ◌≤◌, true, false, is_some, List, length, sym, ap, ◌∙◌, subst, arith}
use Rattle.fleet_index.specs.Chains.{is_limited}
use Rattle.batch_plan.specs.Nodes.{Node, side_by_side}
use Rattle.batch_plan.specs.Shapes.{last_path}
use Rattle.batch_plan.proofs.ShapeLemmas.{on_ok}
use Rattle.batch_plan.proofs.GrowLemmas.{deep_enough, one_more, no_more}
use Rattle.batch_plan.proofs.shape.append_group.Goals as goal

pub append-requires-clause-deep : goal.append-requires-clause-deep
append-requires-clause-deep g c =
    subst (λ (nodes : List Node). c.depth_of.result ≤ length (last_path nodes)) (sym c.requires.before)
    (omega (arith, c.depth_of.ensures, deep_enough c.args.fleet.now c.args.group.index))

pub returns-in-Some : goal.returns-in-Some
returns-in-Some g c =
    let limited : is_limited c.args.fleet.now.limits c.args.group.index ≡ true = ap (λ o. is_some o) (sym c.in-Some.ensures) in
    on_ok c.append.result
    (λ grown. one_more c.args.fleet.now c.args.group.index c.depth_of.result c.new.result (side_by_side c.args.tops.now.items)
    (side_by_side c.append.new.trees.items) limited c.depth_of.ensures c.new.ensures c.requires.before grown)
    c.append.ensures

pub returns-in-None : goal.returns-in-None
returns-in-None g c =
    let unlimited : is_limited c.args.fleet.now.limits c.args.group.index ≡ false = ap (λ o. is_some o) (sym c.in-None.ensures) in
    c.requires.before ∙ no_more c.args.fleet.now c.args.group.index unlimited
