-- Words of the steps.
use Rattle.std.specs.Prelude.{◌≡◌, ℕ, ◌<◌, false, Bool, Option, Some, None, List, ◌++◌, [], ◌∷◌, length, slice_index, slice_index_or}
use Rattle.std.specs.List.{find, range_with_len}
use Rattle.std.specs.Borrow.{Bor}
use Rattle.group_tree.specs.Names.{Name}
use Rattle.fleet_index.specs.NumberLists.{has_number}
use Rattle.domains.specs.FleetViews.{FleetView}
use Rattle.domains.specs.Starts.{exceeds}
use Rattle.fleet_states.specs.declared.status.Status.{Status}
use Rattle.fleet_states.specs.Groups.{group_at, groups_of, room}
use Rattle.batch_plan.specs.Checks.{chain_count}
use Rattle.rehearse.specs.Names.{first_nobody, hosts_named}
use Rattle.plan_check.specs.Names.{batches_named, nobody_in, numbers_named}
use Rattle.plan_check.specs.declared.terms.Terms.{Terms}
use Rattle.plan_check.specs.declared.naming.Named.{Named}
use Rattle.plan_check.specs.declared.naming.Named.TheVariants as named
use Rattle.plan_check.specs.declared.naming.NamedBatches.{NamedBatches}
use Rattle.plan_check.specs.declared.naming.NamedBatches.TheVariants as batches

-- these are the hosts of the names, or this is the first name that is no host's
abbrev pub AreNamed : FleetView → List Name → Named → Type 0
AreNamed fleet names (named.Hosts hosts) = (first_nobody fleet names ≡ None) × (hosts.items ≡ hosts_named fleet names)
AreNamed fleet names (named.Nobody name) = first_nobody fleet names ≡ Some name.now

-- the same of batches
abbrev pub AreNamedBatches : FleetView → List (List Name) → NamedBatches → Type 0
AreNamedBatches fleet names (batches.Batches found) = (nobody_in fleet names ≡ None) × (found ≡ batches_named fleet names)
AreNamedBatches fleet names (batches.Nobody batch name) = nobody_in fleet names ≡ Some (record { batch = batch; name = name.now })

-- the batch that a line says was added, or its first name that is no host's was found and nothing added
abbrev pub Goes : FleetView → List (List ℕ) → List (List ℕ) → Option (List Name) → Option (Bor Name) → Type 0
Goes fleet before after None None = after ≡ before
Goes fleet before after None (Some name) = ⊥
Goes fleet before after (Some names) None = (first_nobody fleet names ≡ None) × (after ≡ before ++ numbers_named fleet names ∷ [])
Goes fleet before after (Some names) (Some name) = (first_nobody fleet names ≡ Some name.now) × (after ≡ before)

-- the marks of just these hosts are set
abbrev pub AreMarks : List Bool → List ℕ → Type 0
AreMarks stood before = (host : ℕ) → host < length stood → slice_index_or stood host false ≡ has_number host before

-- what each group has room for, by its number
abbrev pub AreRooms : FleetView → List Status → List (Option ℕ) → Type 0
AreRooms fleet statuses rooms =
    (length rooms ≡ length fleet.groups)
    × ((group : ℕ) → group < length fleet.groups → slice_index_or rooms group None ≡ room statuses (group_at (groups_of fleet) group))

-- each host has a status, and the rooms are those of the groups
pub record AreTerms (terms : Terms) : Type 0 where
  pub all : length terms.statuses.now ≡ length terms.fleet.now.hosts
  pub rooms : AreRooms terms.fleet.now terms.statuses.now terms.rooms.now

-- how many of the batch have each limited group in their chains
abbrev pub AreCounts : FleetView → List ℕ → List ℕ → Type 0
AreCounts fleet batch counts =
    (length counts ≡ length fleet.groups) × ((group : ℕ) → group < length fleet.groups → slice_index counts group ≡ chain_count fleet.chains group batch)

-- the first place at which the count is more than the room
abbrev pub first_over : List (Option ℕ) → List ℕ → Option ℕ
first_over rooms counts = find (λ place. exceeds (slice_index_or rooms place None) (slice_index counts place)) (range_with_len 0 (length counts))
