use Rattle.std.proofs.Common.{◌≡◌, ◌≤◌, is_some, take}
use Rattle.std.specs.List.{count_by}
use Rattle.expectations.proofs.judging.count_limited.Given as goal

abbrev pub invariant-loop-index : goal.invariant-loop-index
invariant-loop-index l = record {
  counted : l.count ≡ count_by is_some (take l.index l.fleet.limits);
  few : l.count ≤ l.index;
}
