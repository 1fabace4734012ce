use Rattle.std.proofs.Common.{◌++◌, List, map, ap, ◌∙◌}
use Rattle.group_tree.specs.declared.ids.GroupId.{GroupId}
use Rattle.domains.specs.Ids.{group_numbers}
use Rattle.batch_plan.specs.Counts.{limited_groups}
use Rattle.batch_plan.specs.Nodes.{Node, side_by_side}
use Rattle.batch_plan.proofs.FoundLemmas.{groups_are}
use Rattle.occupancy_table.proofs.counts.list_groups.Goals as goal

pub returns : goal.returns
returns g c =
    let counted = c.args.domains.now in
    c.in_ok-append_groups.ensures ∙ ap (λ (l : List GroupId). group_numbers l ++ map (λ (node : Node). node.group) (side_by_side c.tops.result.now)) c.new-groups.ensures.items
    ∙ ap (map (λ (node : Node). node.group)) c.tops.ensures ∙ groups_are counted (limited_groups counted.fleet)
