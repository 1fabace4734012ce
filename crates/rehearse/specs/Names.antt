-- The hosts and the groups of names.
use Rattle.std.specs.Prelude.{ℕ, Bool, ◌&&◌, not, Option, None, List, map, position, if◌then◌else◌}
use Rattle.std.specs.List.{find, position_or_len}
use Rattle.std.specs.Str.{is_utf8}
use Rattle.group_tree.specs.Names.{Name, is_among, same_name}
use Rattle.group_tree.specs.declared.ids.HostId.{HostId}
use Rattle.domains.specs.FleetViews.{FleetView}

-- no host has the name; what is no UTF-8 is nobody's name, and a group's name isn't looked up
abbrev pub is_nobody : FleetView → Name → Bool
is_nobody fleet name = not (is_utf8 name && is_among name fleet.hosts)

-- the first of the names that is no host's
abbrev pub first_nobody : FleetView → List Name → Option Name
first_nobody fleet names = find (is_nobody fleet) names

-- the host of a name
abbrev pub host_named : FleetView → Name → HostId
host_named fleet name = record { index = position_or_len (same_name name) fleet.hosts }

abbrev pub hosts_named : FleetView → List Name → List HostId
hosts_named fleet names = map (host_named fleet) names

-- the group of a name; what is no UTF-8 is no group's name, and a host's name isn't looked up
abbrev pub group_named : FleetView → Name → Option ℕ
group_named fleet name = if is_utf8 name then position (same_name name) fleet.groups else None
