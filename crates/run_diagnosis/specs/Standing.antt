-- Hosts by their status at the end of a run.
use Rattle.std.specs.Prelude.{ℕ, Bool, true, false, ◌&&◌, nat_eq, nat_le, if◌then◌else◌, Option, None, Some, List, [], ◌∷◌, ◌++◌, codes, flat_map, length, take}
use Rattle.std.specs.List.{range_with_len}
use Rattle.fleet_index.specs.NumberLists.{numbers_where}
use Rattle.domains.specs.FleetViews.{FleetView}
use Rattle.domains.specs.Numbered.{host_at}
use Rattle.fleet_states.specs.declared.status.Status.{Status}
use Rattle.fleet_states.specs.declared.status.Status.TheVariants.{Idle, Waiting, Running, Updated, Failed, Halted, Off, Held}
use Rattle.fleet_states.specs.Statuses.{status_at}
use Rattle.recap.specs.PlanText.{names_text}
use Rattle.recap.specs.RecapText.{state_word}
use Rattle.run_diagnosis.specs.Fulls.{first_by}
use Rattle.run_diagnosis.specs.LeftOut.{more_text}

-- the hosts that the run left down come first, followed by the other hosts the play is for
abbrev pub rank_of : Status → ℕ
rank_of Failed = 0
rank_of Halted = 1
rank_of Running = 2
rank_of Waiting = 3
rank_of Held = 4
rank_of Updated = 5
rank_of Off = 6
rank_of Idle = 7

abbrev pub is_between : ℕ → ℕ → Status → Bool
is_between least most status = nat_le least (rank_of status) && nat_le (rank_of status) most

-- the hosts whose rank is in this range, by name
abbrev pub hosts_between : FleetView → List Status → ℕ → ℕ → List ℕ
hosts_between fleet statuses least most = numbers_where (λ host. is_between least most (status_at statuses host)) (length fleet.hosts)

-- those with this status
abbrev pub hosts_that : FleetView → List Status → Status → List ℕ
hosts_that fleet statuses kind = hosts_between fleet statuses (rank_of kind) (rank_of kind)

abbrev pub is_same : Option ℕ → Option ℕ → Bool
is_same None None = true
is_same None (Some other) = false
is_same (Some one) None = false
is_same (Some one) (Some other) = nat_eq one other

-- a host has this status and this outermost group without room, or none
abbrev pub is_kept : FleetView → (ℕ → Bool) → Status → Option ℕ → ℕ → Status → Bool
is_kept fleet full kind group host status = is_between (rank_of kind) (rank_of kind) status && is_same group (first_by full fleet host)

abbrev pub hosts_kept : FleetView → (ℕ → Bool) → List Status → Status → Option ℕ → List ℕ
hosts_kept fleet full statuses kind group = numbers_where (λ host. is_kept fleet full kind group host (status_at statuses host)) (length fleet.hosts)

-- a text about hosts; nothing if there are none
abbrev pub unless_empty : List ℕ → List ℕ → List ℕ
unless_empty [] text = []
unless_empty (host ∷ hosts) text = text

-- `STATE: NAME NAME ..`: the first ten by name
abbrev pub front_text : FleetView → Status → List ℕ → List ℕ
front_text fleet kind hosts = state_word kind ++ (codes ":" ++ (names_text fleet (take 10 hosts) ++ more_text (length hosts)))

abbrev pub no_room_text : List ℕ → List ℕ
no_room_text group = codes "; group " ++ (group ++ codes " has no room\n")

-- the end of the line
abbrev pub end_text : FleetView → Option ℕ → List ℕ
end_text fleet None = codes "\n"
end_text fleet (Some group) = no_room_text (host_at fleet.groups group)

-- the line of hosts with this status, blocked by this group if there is one
abbrev pub hosts_line : FleetView → Status → List ℕ → Option ℕ → List ℕ
hosts_line fleet kind hosts group = unless_empty hosts (front_text fleet kind hosts ++ end_text fleet group)

abbrev pub kind_line : FleetView → List Status → Status → List ℕ
kind_line fleet statuses kind = hosts_line fleet kind (hosts_that fleet statuses kind) None

abbrev pub cause_line : FleetView → (ℕ → Bool) → List Status → Status → Option ℕ → List ℕ
cause_line fleet full statuses kind group = hosts_line fleet kind (hosts_kept fleet full statuses kind group) group

abbrev pub keeps : (ℕ → Bool) → Option ℕ → Bool
keeps full None = true
keeps full (Some group) = full group

-- a group with room blocks no host
abbrev pub group_line : FleetView → (ℕ → Bool) → List Status → Status → Option ℕ → List ℕ
group_line fleet full statuses kind group = if keeps full group then cause_line fleet full statuses kind group else []

abbrev pub groups_lines : FleetView → (ℕ → Bool) → List Status → Status → List ℕ
groups_lines fleet full statuses kind = flat_map (λ group. group_line fleet full statuses kind (Some group)) (range_with_len 0 (length fleet.groups))

-- one line per group without room, and one for the hosts that no group blocks
abbrev pub kept_lines : FleetView → (ℕ → Bool) → List Status → Status → List ℕ
kept_lines fleet full statuses kind = groups_lines fleet full statuses kind ++ cause_line fleet full statuses kind None
