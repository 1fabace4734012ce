use Rattle.std.proofs.Common.{◌++◌, List, ℕ, map, ap, ◌∙◌}
use Rattle.batch_plan.specs.Counts.{limited_groups}
use Rattle.batch_plan.specs.Nodes.{Node, side_by_side}
use Rattle.occupancy_table.proofs.CellLemmas.{downs_are}
use Rattle.occupancy_table.proofs.counts.list_down.Goals as goal

pub returns : goal.returns
returns g c =
    let counted = c.args.domains.now in
    c.in_ok-append_down.ensures ∙ ap (λ (l : List ℕ). l ++ map (λ (node : Node). node.down) (side_by_side c.tops.result.now)) c.new-counts.ensures.items
    ∙ ap (map (λ (node : Node). node.down)) c.tops.ensures ∙ downs_are counted (limited_groups counted.fleet)
