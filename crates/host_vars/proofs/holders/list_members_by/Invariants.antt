use Rattle.std.proofs.Common.{◌≡◌, All, length, map, take}
use Rattle.fleet_index.specs.NumberLists.{list_at, IsRising}
use Rattle.host_vars.proofs.holders.list_members_by.Given as goal

abbrev pub invariant-loop-number : goal.invariant-loop-number
invariant-loop-number l =
    record {
      members : l.lists ≡ map (list_at l.fleet.members) (take l.number-index l.order);
      rise : All (IsRising (length l.fleet.hosts)) l.lists;
    }
