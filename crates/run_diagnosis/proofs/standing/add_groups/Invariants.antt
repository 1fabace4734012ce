use Rattle.std.proofs.Common.{◌≡◌, ◌++◌, false, flat_map, get_or}
use Rattle.std.specs.List.{range_with_len}
use Rattle.std.specs.Prelude.{Some}
use Rattle.run_diagnosis.specs.Standing.{group_line}
use Rattle.run_diagnosis.proofs.standing.add_groups.Given as goal

abbrev pub invariant-loop-index : goal.invariant-loop-index
invariant-loop-index l =
    l.lines.items
    ≡ l.initial.lines.items
    ++ flat_map (λ group. group_line l.fleet (λ group. get_or l.full group false) l.statuses l.kind (Some group)) (range_with_len 0 l.index)
