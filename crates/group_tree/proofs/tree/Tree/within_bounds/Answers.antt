use Rattle.group_tree.proofs.tree.Tree.within_bounds.Goals as goal

pub invariant_of-result : goal.invariant_of-result
invariant_of-result g c = record {
  distinct = c.requires.distinct;
  depth = c.requires.depth;
  groups = c.requires.groups;
  rows = c.requires.rows;
  preorder = c.groups-groups.ensures.preorder;
}
