use Rattle.std.proofs.Common.{◌≡◌, ◌++◌, take}
use Rattle.host_vars.specs.Entries.{entry_variables}
use Rattle.host_vars.proofs.entry.add_entries.Given as goal

abbrev pub invariant-loop-variable : goal.invariant-loop-variable
invariant-loop-variable g l =
    entry_variables l.entries.items ≡ entry_variables l.initial.entries.items ++ take l.variable-index l.variables
