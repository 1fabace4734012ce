use Rattle.std.proofs.Common.{◌≡◌, ℕ, ◌+◌, ◌<◌, length, get_or, take}
use Rattle.domains.specs.Ids.{host_numbers}
use Rattle.batch_plan.specs.Checks.{chain_count}
use Rattle.batch_plan.proofs.places_left.give_back_all.Given as goal

abbrev pub invariant-loop-host : goal.invariant-loop-host
invariant-loop-host l =
    record {
      len : length l.left ≡ length l.initial.left;
      given : (group : ℕ) → group < length l.initial.left
          → get_or l.left group 0 ≡ get_or l.initial.left group 0 + chain_count l.fleet.chains group (take l.host-index (host_numbers l.batch));
    }
