use Rattle.std.proofs.Common.{◌≡◌, map}
use Rattle.std.specs.List.{range_with_len}
use Rattle.run_diagnosis.specs.Fulls.{is_full}
use Rattle.run_diagnosis.proofs.full.list_full.Given as goal

abbrev pub invariant-loop-index : goal.invariant-loop-index
invariant-loop-index l = l.full.items ≡ map (is_full l.fleet l.statuses) (range_with_len 0 l.index)
