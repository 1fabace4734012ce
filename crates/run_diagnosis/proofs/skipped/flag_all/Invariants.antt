use Rattle.std.proofs.Common.{◌≡◌, ℕ, ◌<◌, ◌||◌, false, length, get_or, take}
use Rattle.fleet_index.specs.NumberLists.{has_number}
use Rattle.domains.specs.Ids.{host_numbers}
use Rattle.run_diagnosis.proofs.skipped.flag_all.Given as goal

abbrev pub invariant-loop-host : goal.invariant-loop-host
invariant-loop-host l =
    (length l.flags.items ≡ length l.initial.flags.items)
    × ((place : ℕ) → place < length l.initial.flags.items
    → get_or l.flags.items place false ≡ (get_or l.initial.flags.items place false || has_number place (take l.host-index (host_numbers l.hosts))))
