use Rattle.std.proofs.Common.{◌≡◌, take}
use Rattle.host_vars.specs.Entries.{entry_variables}
use Rattle.host_vars.specs.Own.{own_below}
use Rattle.domains.specs.Walked.{walked_groups}
use Rattle.host_vars.proofs.own.own_table.Given as goal

abbrev pub invariant-loop-walked : goal.invariant-loop-walked
invariant-loop-walked g l =
    entry_variables l.entries.items ≡ own_below l.name (walked_groups (take l.walked-index l.groups))
