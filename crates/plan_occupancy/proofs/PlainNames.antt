-- The fleet of an inventory as it was read has plain names.
use Rattle.std.proofs.Common.{◌≡◌, ℕ, true, List, [], ◌∷◌, map, get_or, sym, ap, ◌∙◌, subst, inl, inr, ◌⊎◌}
use Rattle.std.specs.Prelude.{All, flat_map}
use Rattle.std.specs.List.{list_all}
use Rattle.std.proofs.lemmas.Bool.{and_parts, or_cases}
use Rattle.std.proofs.lemmas.List.{map-append}
use Rattle.std.proofs.lemmas.List.Elements.{All-append, All-cons, All-from_get_or, All-head, All-nil, All-tail}
use Rattle.std.proofs.lemmas.List.Folds.{list_any_at}
use Rattle.group_tree.specs.Names.{Name, is_among, is_name, same_name}
use Rattle.group_tree.specs.Bounds.{group_names}
use Rattle.group_tree.specs.Places.{Inventory, Row}
use Rattle.text_syntax.specs.Keys.{hosts_key}
use Rattle.text_syntax.specs.Shapes.{Entry, entries_in}
use Rattle.fleet_index.specs.SortedNames.{sorted_names}
use Rattle.fleet_index.proofs.SortedNamesLemmas.{is_among-sorted_names, same_name-itself, same_name-true}
use Rattle.domains.specs.FleetViews.{FleetView}
use Rattle.domains.specs.Fleets.{IsFleetOf}
use Rattle.domains.specs.Hosts.{hosts_of}
use Rattle.inventory_read.specs.Documents.{Listed, groups_of, part}
use Rattle.inventory_read.specs.Named.{are_named, has_name, hosts_are_named, is_named}
use Rattle.inventory_read.specs.Reads.{IsReadAs}
use Rattle.inventory_read.specs.Values.{host_of, place_of, row_of, rows_of}
use Rattle.inventory_read.proofs.Named.{unbroken-named}

abbrev pub IsPlain : Name → Type 0
IsPlain name = is_name name ≡ true

abbrev host_in_row : Row → Name
host_in_row row = row.host

plain_groups : (groups : List Listed) → are_named groups ≡ true → All IsPlain (group_names (map place_of groups))
plain_groups [] named = All-nil IsPlain
plain_groups (group ∷ groups) named =
    let both = and_parts (is_named group) (are_named groups) named in
    All-cons IsPlain group.name (group_names (map place_of groups)) (and_parts (is_name group.name) (hosts_are_named group.body) both.0).0 (plain_groups groups both.1)

plain_entries : (group : Listed) (entries : List Entry) → list_all has_name entries ≡ true → All IsPlain (map host_in_row (map (row_of group) (map host_of entries)))
plain_entries group [] named = All-nil IsPlain
plain_entries group (entry ∷ entries) named =
    let both = and_parts (has_name entry) (list_all has_name entries) named in
    All-cons IsPlain entry.name (map host_in_row (map (row_of group) (map host_of entries))) both.0 (plain_entries group entries both.1)

plain_rows : (groups : List Listed) → are_named groups ≡ true → All IsPlain (map host_in_row (flat_map rows_of groups))
plain_rows [] named = All-nil IsPlain
plain_rows (group ∷ groups) named =
    let both = and_parts (is_named group) (are_named groups) named in
    let hosts = (and_parts (is_name group.name) (hosts_are_named group.body) both.0).1 in
    subst (All IsPlain) (sym (map-append host_in_row (rows_of group) (flat_map rows_of groups)))
    (All-append IsPlain (map host_in_row (rows_of group)) (map host_in_row (flat_map rows_of groups)) (plain_entries group (entries_in (part hosts_key group.body)) hosts) (plain_rows groups both.1))

among_plain : (name : Name) (names : List Name) → is_among name names ≡ true → All IsPlain names → IsPlain name
among_plain name [] among plain = cc
among_plain name (first ∷ names) among plain = by_case (or_cases (same_name name first) (is_among name names) among) (λ later. among_plain name names later (All-tail IsPlain first names plain))
  where
    by_case : (same_name name first ≡ true) ⊎ (is_among name names ≡ true) → (is_among name names ≡ true → IsPlain name) → IsPlain name
    by_case (inl same) later = ap is_name (same_name-true name first same) ∙ All-head IsPlain first names plain
    by_case (inr among_later) later = later among_later

plain_sorted : (names : List Name) → All IsPlain names → All IsPlain (sorted_names names)
plain_sorted names plain =
    All-from_get_or IsPlain (sorted_names names) []
    (λ i l.
    let name = get_or (sorted_names names) i [] in
    among_plain name names (sym (is_among-sorted_names name names) ∙ list_any_at (same_name name) (sorted_names names) i [] l (same_name-itself name)) plain)

module _ (text : List ℕ) (inventory : Inventory) (fleet : FleetView) (reads : IsReadAs text inventory) (built : IsFleetOf inventory fleet) where
  named : are_named (groups_of reads.document) ≡ true
  named = unbroken-named reads.document reads.keeps_all

  pub hosts_are_plain : All IsPlain fleet.hosts
  hosts_are_plain =
      subst (All IsPlain) (sym (built.hosts ∙ ap hosts_of reads.says)) (plain_sorted (map host_in_row (flat_map rows_of (groups_of reads.document))) (plain_rows (groups_of reads.document) named))

  pub groups_are_plain : All IsPlain fleet.groups
  groups_are_plain =
      subst (All IsPlain) (sym (built.groups ∙ ap (λ (inventory : Inventory). group_names inventory.places) reads.says)) (plain_groups (groups_of reads.document) named)
