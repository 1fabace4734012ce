-- Which hosts a group holds and which limited groups hold a host, by their numbers.
use Rattle.std.specs.Prelude.{ℕ, List, map, length}
use Rattle.group_tree.specs.Names.{Name}
use Rattle.group_tree.specs.Places.{Place, Inventory}
use Rattle.group_tree.specs.Members.{holds}
use Rattle.fleet_index.specs.NumberLists.{numbers_where}
use Rattle.domains.specs.Starts.{place_at}
use Rattle.domains.specs.Nested.{is_limited_holder}
use Rattle.domains.specs.Numbered.{host_at}

-- each group's hosts are those that it holds, by their numbers
abbrev pub members_of : Inventory → List Name → List (List ℕ)
members_of inventory hosts =
    map (λ (place : Place). numbers_where (λ host. holds inventory place.name (host_at hosts host)) (length hosts)) inventory.places

-- each host's limited groups in preorder, so from the outermost in
abbrev pub chains_of : Inventory → List Name → List (List ℕ)
chains_of inventory hosts =
    map (λ host. numbers_where (λ group. is_limited_holder inventory host (place_at inventory.places group)) (length inventory.places)) hosts
