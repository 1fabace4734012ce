use Rattle.std.proofs.Common.{◌≡◌, take}
use Rattle.group_tree.proofs.variable.copy_variables.Given as goal

abbrev pub invariant-loop-variable : goal.invariant-loop-variable
invariant-loop-variable g l = l.copy.items ≡ take l.variable-index l.variables
