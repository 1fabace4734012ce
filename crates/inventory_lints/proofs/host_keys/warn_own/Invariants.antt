use Rattle.std.proofs.Common.{◌≡◌, ◌++◌, take}
use Rattle.inventory_lints.specs.HostKeys.{own_notes}
use Rattle.inventory_lints.proofs.host_keys.warn_own.Given as goal

abbrev pub invariant-loop-variable : goal.invariant-loop-variable
invariant-loop-variable g l = l.notes ≡ l.initial.notes ++ own_notes l.group l.host (take l.variable-index l.variables)
