use Rattle.std.proofs.Common.{◌≡◌, ◌++◌, flat_map}
use Rattle.std.specs.List.{range_with_len}
use Rattle.inventory_lints.specs.Groups.{group_notes}
use Rattle.inventory_lints.proofs.groups.warn_groups.Given as goal

abbrev pub invariant-loop-index : goal.invariant-loop-index
invariant-loop-index g l = l.notes ≡ l.initial.notes ++ flat_map (group_notes l.tree l.fleet) (range_with_len 0 l.index)
