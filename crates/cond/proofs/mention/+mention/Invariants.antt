use Rattle.std.proofs.Common.{◌≡◌, map, drop}
use Rattle.std.specs.List.{find}
use Rattle.cond.specs.Mentions.{names_in_tree, joined}
use Rattle.cond.proofs.Mentioned.{first_in}
use Rattle.cond.proofs.mention.+mention.Given as goal

-- the first one in the rest is the first one
abbrev pub invariant-first_in_trees-loop-tree : goal.invariant-first_in_trees-loop-tree
invariant-first_in_trees-loop-tree g l =
    first_in (g.N.Names.holds l.names) (map (names_in_tree l.text) (drop l.tree-index l.trees)) ≡ find (g.N.Names.holds l.names) (joined (map (names_in_tree l.text) l.trees))
