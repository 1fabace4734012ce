use Rattle.std.proofs.Common.{◌≡◌, ◌++◌, take}
use Rattle.inventory_lints.specs.Groups.{variables_notes}
use Rattle.inventory_lints.proofs.groups.warn_variables.Given as goal

abbrev pub invariant-loop-variable : goal.invariant-loop-variable
invariant-loop-variable g l = l.notes ≡ l.initial.notes ++ variables_notes l.group (take l.variable-index l.variables)
