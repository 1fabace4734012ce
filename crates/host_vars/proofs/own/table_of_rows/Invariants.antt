use Rattle.std.proofs.Common.{◌≡◌, take}
use Rattle.host_vars.specs.Entries.{entry_variables}
use Rattle.host_vars.specs.Own.{hosts_shown, variables_at}
use Rattle.host_vars.proofs.own.table_of_rows.Given as goal

abbrev pub invariant-loop-place : goal.invariant-loop-place
invariant-loop-place g l =
    entry_variables l.entries.items ≡ variables_at (hosts_shown l.rows) (take l.place-index l.places)
