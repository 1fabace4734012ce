-- The first thing that is wrong with batches.
use Rattle.std.specs.Prelude.{ℕ, ◌+◌, Bool, not, ◌&&◌, nat_lt, Option, Some, None, List, [], ◌∷◌, count_by, length, option_map, unwrap_or}
use Rattle.std.specs.Prelude.{if◌then◌else◌}
use Rattle.std.specs.List.{find, range_with_len}
use Rattle.std.specs.Option.{option_or}
use Rattle.group_tree.specs.declared.ids.HostId.{HostId}
use Rattle.group_tree.specs.declared.ids.GroupId.{GroupId}
use Rattle.fleet_index.specs.NumberLists.{has_number}
use Rattle.domains.specs.FleetViews.{FleetView}
use Rattle.domains.specs.Starts.{exceeds}
use Rattle.fleet_states.specs.declared.status.Status.{Status}
use Rattle.fleet_states.specs.Statuses.{is_waiting, status_at}
use Rattle.fleet_states.specs.Groups.{FleetGroup, group_at, groups_of, room}
use Rattle.plan_check.specs.declared.wrong.Wrong.{Wrong}
use Rattle.plan_check.specs.declared.wrong.Wrong.TheVariants.{Empty, NotWaiting, Twice, Size, Over, Missing}

abbrev pub host_id : ℕ → HostId
host_id host = record { index = host }

abbrev pub group_id : ℕ → GroupId
group_id group = record { index = group }

-- nobody stands in the batch of this number
abbrev pub wrong_start : ℕ → List ℕ → Option Wrong
wrong_start number [] = Some (Empty number)
wrong_start number (host ∷ hosts) = None

-- the host doesn't wait, or it is one of those that stood before
abbrev pub wrong_host : List Status → ℕ → List ℕ → ℕ → Option Wrong
wrong_host statuses number before host =
    if not (is_waiting (status_at statuses host)) then Some (NotWaiting number (host_id host))
    else (if has_number host before then Some (Twice number (host_id host)) else None)

-- the first such host of a batch
abbrev pub wrong_hosts : List Status → ℕ → List ℕ → List ℕ → Option Wrong
wrong_hosts statuses number before [] = None
wrong_hosts statuses number before (host ∷ hosts) =
    option_or (wrong_host statuses number before host) (wrong_hosts statuses number (host ∷ before) hosts)

-- these stood before, and then those
abbrev pub behind : List ℕ → List ℕ → List ℕ
behind before [] = before
behind before (host ∷ hosts) = behind (host ∷ before) hosts

-- the batch has more hosts than `serial` lets it have
abbrev pub wrong_size : Option ℕ → ℕ → List ℕ → Option Wrong
wrong_size None number batch = None
wrong_size (Some size) number batch = if nat_lt size (length batch) then Some (Size number (length batch) size) else None

-- how many of the batch are members of the group
abbrev pub members_in : List ℕ → FleetGroup → ℕ
members_in batch group = count_by (λ host. has_number host group.members) batch

-- these are more of a group than it has room for
abbrev pub is_over : List FleetGroup → List Status → List ℕ → ℕ → Bool
is_over groups statuses batch group = exceeds (room statuses (group_at groups group)) (members_in batch (group_at groups group))

abbrev pub over_in : List FleetGroup → List Status → ℕ → List ℕ → ℕ → Wrong
over_in groups statuses number batch group =
    Over number (group_id group) (members_in batch (group_at groups group)) (unwrap_or (room statuses (group_at groups group)) 0)

-- the first group, in preorder, of which the batch has more than that has room for
abbrev pub wrong_groups : List FleetGroup → List Status → ℕ → List ℕ → Option Wrong
wrong_groups groups statuses number batch =
    option_map (over_in groups statuses number batch) (find (is_over groups statuses batch) (range_with_len 0 (length groups)))

-- what is wrong with a batch behind these hosts: it is empty; one of its hosts; its size; a group
abbrev pub wrong_batch : FleetView → List Status → Option ℕ → ℕ → List ℕ → List ℕ → Option Wrong
wrong_batch fleet statuses cap number before batch =
    option_or (wrong_start number batch)
    (option_or (wrong_hosts statuses number before batch) (option_or (wrong_size cap number batch) (wrong_groups (groups_of fleet) statuses number batch)))

-- the host waits, and is none of these
abbrev pub is_left_out : List Status → List ℕ → ℕ → Bool
is_left_out statuses before host = is_waiting (status_at statuses host) && not (has_number host before)

-- the first waiting host by name that is none of these
abbrev pub wrong_end : List Status → List ℕ → Option Wrong
wrong_end statuses before =
    option_map (λ host. Missing (host_id host)) (find (is_left_out statuses before) (range_with_len 0 (length statuses)))

-- what is wrong with batches behind these hosts, the first of which has this number: batch by batch, then who is missing
abbrev pub wrong_from : FleetView → List Status → Option ℕ → ℕ → List ℕ → List (List ℕ) → Option Wrong
wrong_from fleet statuses cap number before [] = wrong_end statuses before
wrong_from fleet statuses cap number before (batch ∷ batches) =
    option_or (wrong_batch fleet statuses cap number before batch) (wrong_from fleet statuses cap (number + 1) (behind before batch) batches)

-- the first thing that is wrong with batches as a plan of these statuses
abbrev pub first_plan_error : FleetView → List Status → Option ℕ → List (List ℕ) → Option Wrong
first_plan_error fleet statuses cap batches = wrong_from fleet statuses cap 1 [] batches
