use Rattle.std.proofs.Common.{◌≡◌, drop}
use Rattle.std.specs.Option.{option_or, option_map}
use Rattle.group_tree.specs.Variables as model
use Rattle.group_tree.specs.Scalars.{lent_scalar}
use Rattle.group_tree.proofs.variable.look_up.Given as goal

abbrev pub invariant-loop-variable : goal.invariant-loop-variable
invariant-loop-variable g l =
    option_or (model.value_of l.name (drop l.variable-index l.variables)) (option_map lent_scalar l.found) ≡ model.value_of l.name l.variables
