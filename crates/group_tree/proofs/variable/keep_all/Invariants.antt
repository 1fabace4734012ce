use Rattle.std.proofs.Common.{◌≡◌, map, take}
use Rattle.group_tree.specs.Scalars.{lent_variable}
use Rattle.group_tree.proofs.variable.keep_all.Given as goal

abbrev pub invariant-loop-name : goal.invariant-loop-name
invariant-loop-name g l = l.kept.items ≡ map lent_variable (take l.name-index l.variables)
