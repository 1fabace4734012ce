use Rattle.std.proofs.Common.{sym, ◌∙◌, refl, arith}
use Rattle.group_tree.proofs.tree.Tree.new.Goals as goal

pub invariant_of-result : goal.invariant_of-result
invariant_of-result g c = record {
  distinct = c.in_default.ensures;
  depth = sym c.is_within_depth.ensures ∙ c.if-not-is_within_depth.false;
  groups = omega (arith, c.groups.ensures.count);
  rows = omega (arith, c.rows.ensures);
  preorder = c.groups.ensures.preorder;
}

pub returns-clause-ok : goal.returns-clause-ok
returns-clause-ok g c = (
  refl,
  record {
    distinct = c.in_default.ensures;
    depth = sym c.is_within_depth.ensures ∙ c.if-not-is_within_depth.false;
    groups = omega (arith, c.groups.ensures.count);
    rows = omega (arith, c.rows.ensures);
    preorder = c.groups.ensures.preorder;
  },
)
