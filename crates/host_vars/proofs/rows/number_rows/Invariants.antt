use Rattle.std.proofs.Common.{◌≡◌, ℕ, ◌<◌, All, length}
use Rattle.fleet_index.specs.NumberLists.{list_at, has_number, IsRising}
use Rattle.group_tree.specs.Names.{same_name}
use Rattle.domains.specs.Numbered.{host_at}
use Rattle.host_vars.specs.Own.{hosts_shown, listed_at}
use Rattle.host_vars.proofs.rows.number_rows.Given as goal

abbrev pub invariant-loop-row : goal.invariant-loop-row
invariant-loop-row g l =
    record {
      len : length l.lists ≡ l.row-index;
      rise : All (IsRising (length l.fleet.hosts)) l.lists;
      own : (row host : ℕ) → row < l.row-index → host < length l.fleet.hosts → has_number host (list_at l.lists row) ≡ same_name (host_at l.fleet.hosts host) (listed_at (hosts_shown l.rows) row).name;
    }
