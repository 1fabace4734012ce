-- Hosts that no limit holds, where limits hold others of their play.
use Rattle.std.specs.Prelude.{ℕ, ◌==◌, Bool, true, nat_lt, if◌then◌else◌, Option, None, option_map, List, count_by, length}
use Rattle.std.specs.List.{find}
use Rattle.domains.specs.FleetViews.{FleetView}
use Rattle.domains.specs.Numbered.{host_at}
use Rattle.fleet_index.specs.NumberLists.{list_at}
use Rattle.lint_rules.specs.Notes.{Note, unlimited_hosts}

-- no group with a limit holds the host; so it is where no host has the number
abbrev pub is_unlimited : FleetView → ℕ → Bool
is_unlimited fleet host = if nat_lt host (length fleet.hosts) then length (list_at fleet.chains host) == 0 else true

-- so many hosts are unlimited of those that wait for the play with this number, this one first
abbrev pub noted_unlimited : FleetView → ℕ → List ℕ → ℕ → Note
noted_unlimited fleet number waiting first = unlimited_hosts number (count_by (is_unlimited fleet) waiting) (length waiting) (host_at fleet.hosts first)

-- some are, and some aren't
abbrev pub unlimited_note : FleetView → ℕ → List ℕ → Option Note
unlimited_note fleet number waiting =
    if count_by (is_unlimited fleet) waiting == length waiting then None else option_map (noted_unlimited fleet number waiting) (find (is_unlimited fleet) waiting)
