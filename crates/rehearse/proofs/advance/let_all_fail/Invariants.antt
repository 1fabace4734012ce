use Rattle.std.proofs.Common.{◌≡◌, ◌<◌, ℕ, Some, length, take}
use Rattle.std.specs.Prelude.{if◌then◌else◌}
use Rattle.fleet_index.specs.Ids.{host_numbers}
use Rattle.fleet_index.specs.NumberLists.{has_number}
use Rattle.fleet_states.specs.Batches.{fails_in}
use Rattle.rehearse.proofs.advance.let_all_fail.Given as goal

abbrev pub invariant-loop-host : goal.invariant-loop-host
invariant-loop-host l =
    (length l.failing ≡ length l.initial.failing)
    × ((host : ℕ) → host < length l.initial.failing → fails_in l.failing host ≡ (if has_number host (take l.host-index (host_numbers l.named)) then Some 0 else fails_in l.initial.failing host))
