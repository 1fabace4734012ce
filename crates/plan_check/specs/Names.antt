-- The hosts of the names in batches.
use Rattle.std.specs.Prelude.{ℕ, ◌+◌, Option, Some, None, List, [], ◌∷◌, map}
use Rattle.group_tree.specs.Names.{Name}
use Rattle.fleet_index.specs.Ids.{host_numbers}
use Rattle.domains.specs.FleetViews.{FleetView}
use Rattle.rehearse.specs.Names.{first_nobody, hosts_named}

-- a name that is no host's, in the batch of this number
pub record Nobody : Type 0 where
  pub batch : ℕ
  pub name : Name

-- the name in the batch of this number, or else what is found behind it
abbrev pub nobody_or : ℕ → Option Name → Option Nobody → Option Nobody
nobody_or number (Some name) rest = Some (record { batch = number; name = name })
nobody_or number None rest = rest

-- the first name that is no host's, in batches the first of which has this number
abbrev pub nobody_from : FleetView → ℕ → List (List Name) → Option Nobody
nobody_from fleet number [] = None
nobody_from fleet number (names ∷ batches) = nobody_or number (first_nobody fleet names) (nobody_from fleet (number + 1) batches)

abbrev pub nobody_in : FleetView → List (List Name) → Option Nobody
nobody_in fleet batches = nobody_from fleet 1 batches

-- the batches by the numbers of their hosts
abbrev pub numbers_named : FleetView → List Name → List ℕ
numbers_named fleet names = host_numbers (hosts_named fleet names)

abbrev pub batches_named : FleetView → List (List Name) → List (List ℕ)
batches_named fleet batches = map (numbers_named fleet) batches
