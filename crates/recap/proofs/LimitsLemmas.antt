-- A fleet's table is that of its inventory.
use Rattle.std.proofs.Common.{◌≡◌, ℕ, zero, suc, ◌+◌, ◌<◌, ◌≤◌, Bool, false, ◌&&◌, filter, Option, Some, None, cond, is_some}
use Rattle.std.proofs.Common.{List, [], ◌∷◌, ◌++◌, length, flat_map, append-nil, length-append, slice_index_or}
use Rattle.std.proofs.Common.{sym, ap, ◌∙◌, refl, arith}
use Rattle.std.specs.Option.{option_to_list}
use Rattle.std.specs.List.{filter_map, range_with_len}
use Rattle.std.proofs.lemmas.List.Elements.{filter_map-append}
use Rattle.std.proofs.lemmas.Grind.{flat_map-append}
use Rattle.std.proofs.lemmas.List.{get_or-map, length-map}
use Rattle.std.proofs.lemmas.List.Sums.{length-filter}
use Rattle.group_tree.specs.Names.{Name}
use Rattle.group_tree.specs.Places.{Place, Inventory}
use Rattle.group_tree.specs.Members.{holds}
use Rattle.fleet_index.specs.NumberLists.{list_at, numbers_where}
use Rattle.domains.specs.FleetViews.{FleetView, down_at_start, off_count}
use Rattle.domains.specs.Fleets.{IsFleetOf}
use Rattle.domains.specs.Hosts.{hosts_of, is_off}
use Rattle.domains.specs.Numbered.{host_at}
use Rattle.domains.specs.Starts.{place_at, nowhere, allowed_of, hosts_off, member_count}
use Rattle.domains.proofs.WhereLemmas.{filtered_names, filter-filter}
use Rattle.recap.specs.LimitsText.{LimitLine, line_text, table_text}
use Rattle.recap.specs.LimitsTable.{line_of, limits_table, fleet_line, fleet_table, line_with, lines_text, lines_with}

from_zero : (n : ℕ) → 0 + n ≡ n
from_zero n = omega arith

range-more : (from count : ℕ) → range_with_len from (count + 1) ≡ range_with_len from count ++ (from + count) ∷ []
range-more from zero = let e : from ≡ from + 0 = omega arith in ap (λ n. n ∷ []) e
range-more from (suc count) =
    let later : (from + 1) + count ≡ from + suc count = omega arith in
    let rest = range-more (from + 1) count ∙ ap (λ n. range_with_len (from + 1) count ++ n ∷ []) later in
    rw (let e : suc count + 1 ≡ suc (count + 1) = omega arith in e) (ap (λ rest. from ∷ rest) rest)

-- one more group adds its line, if it has one
module _ (fleet : FleetView) (downs : ℕ → ℕ) where
  abbrev line_at : ℕ → Option LimitLine
  line_at group = line_with fleet (downs group) group

  lines-more : (count : ℕ) → lines_with fleet downs (count + 1) ≡ lines_with fleet downs count ++ option_to_list (line_at count)
  lines-more count =
      let one_more = range-more 0 count ∙ ap (λ n. range_with_len 0 count ++ n ∷ []) (from_zero count) in
      let parts = filter_map-append line_at (range_with_len 0 count) (count ∷ []) in
      ap (filter_map line_at) one_more ∙ parts ∙ ap (λ last. lines_with fleet downs count ++ last) (last_line (line_at count))
    where
      last_line : (line : Option LimitLine) → filter_map (λ (o : Option LimitLine). o) (line ∷ []) ≡ option_to_list line
      last_line None = refl
      last_line (Some line) = refl

  pub lines_text-more : (count : ℕ) → flat_map line_text (lines_with fleet downs count) ++ lines_text (line_at count) ≡ flat_map line_text (lines_with fleet downs (count + 1))
  lines_text-more count =
      let before = lines_with fleet downs count in
      let parts = flat_map-append line_text before (option_to_list (line_at count)) in
      sym (ap (flat_map line_text) (lines-more count) ∙ parts ∙ ap (λ last. flat_map line_text before ++ last) (last_text (line_at count)))
    where
      last_text : (line : Option LimitLine) → flat_map line_text (option_to_list line) ≡ lines_text line
      last_text None = refl
      last_text (Some line) = append-nil (line_text line)

  pub lines_count-more : (count : ℕ) → length (lines_with fleet downs (count + 1)) ≡ length (lines_with fleet downs count) + cond (is_some (line_at count)) 1 0
  lines_count-more count =
      let before = lines_with fleet downs count in
      let parts = length-append before (option_to_list (line_at count)) in
      ap length (lines-more count) ∙ parts ∙ ap (λ n. length before + n) (last_count (line_at count))
    where
      last_count : (line : Option LimitLine) → length (option_to_list line) ≡ cond (is_some line) 1 0
      last_count None = refl
      last_count (Some line) = refl

pub one_line_at_most : (line : Option LimitLine) → cond (is_some line) 1 0 ≤ 1
one_line_at_most None = omega arith
one_line_at_most (Some line) = omega arith

-- a list mapped by index and by item gives the same
filter_map-places : {X Y : Type 0} (by_place : ℕ → Option Y) (by_item : X → Option Y) (items : List X) (from : ℕ) (d : X)
    → ((i : ℕ) → i < length items → by_place (from + i) ≡ by_item (slice_index_or items i d)) → filter_map by_place (range_with_len from (length items)) ≡ filter_map by_item items
filter_map-places by_place by_item [] from d same = refl
filter_map-places by_place by_item (item ∷ items) from d same =
    let first : by_place from ≡ by_item item = ap by_place (let e : from ≡ from + 0 = omega arith in e) ∙ same 0 (omega arith) in
    let later = λ (i : ℕ). ap by_place (let e : (from + 1) + i ≡ from + suc i = omega arith in e) in
    let rest = filter_map-places by_place by_item items (from + 1) d (λ i within. later i ∙ same (suc i) (omega arith)) in
    rw (first, rest) refl

module _ (inventory : Inventory) (fleet : FleetView) (of : IsFleetOf inventory fleet) where
  holds_at : ℕ → ℕ → Bool
  holds_at group host = holds inventory (place_at inventory.places group).name (host_at fleet.hosts host)

  numbers_held : Place → List ℕ
  numbers_held place = numbers_where (λ host. holds inventory place.name (host_at fleet.hosts host)) (length fleet.hosts)

  members-are : (group : ℕ) → group < length inventory.places → list_at fleet.members group ≡ numbers_where (holds_at group) (length fleet.hosts)
  unfolding holds_at numbers_held
  members-are group within =
      ap (λ members. list_at members group) of.members ∙ get_or-map numbers_held inventory.places group nowhere [] within

  -- how many hosts pass a test, counted by their numbers
  count-hosts : (by_number : ℕ → Bool) (by_name : Name → Bool) → ((host : ℕ) → host < length fleet.hosts → by_number host ≡ by_name (host_at fleet.hosts host))
      → length (numbers_where by_number (length fleet.hosts)) ≡ length (filter by_name (hosts_of inventory))
  count-hosts by_number by_name same =
      filtered_names by_number by_name fleet.hosts 0 (λ host below. ap by_number (from_zero host) ∙ same host below)
      ∙ ap (λ (hosts : List Name). length (filter by_name hosts)) of.hosts

  members-at : (group : ℕ) → group < length inventory.places → length (list_at fleet.members group) ≡ member_count inventory (place_at inventory.places group).name
  unfolding holds_at
  members-at group within =
      ap length (members-are group within) ∙ count-hosts (holds_at group) (holds inventory (place_at inventory.places group).name) (λ host below. refl)

  is_off_at : ℕ → Bool
  is_off_at host = slice_index_or fleet.off host false

  off-at : (host : ℕ) → host < length fleet.hosts → is_off_at host ≡ is_off inventory (host_at fleet.hosts host)
  unfolding is_off_at
  off-at host within =
      ap (λ off. slice_index_or off host false) of.off ∙ get_or-map (is_off inventory) fleet.hosts host [] false within

  down-at : (group : ℕ) → group < length inventory.places → down_at_start fleet group ≡ hosts_off inventory (place_at inventory.places group).name
  unfolding holds_at is_off_at
  down-at group within =
      let name = (place_at inventory.places group).name in
      let counted = sym (length-filter is_off_at (numbers_where (holds_at group) (length fleet.hosts))) in
      let both = ap length (filter-filter is_off_at (holds_at group) (range_with_len 0 (length fleet.hosts))) in
      let down = λ (host : Name). holds inventory name host && is_off inventory host in
      ap (off_count fleet.off) (members-are group within) ∙ counted ∙ both
      ∙ count-hosts (λ host. holds_at group host && is_off_at host) down (λ host below. ap (λ off. holds_at group host && off) (off-at host below))

  line-at : (group : ℕ) → group < length inventory.places → fleet_line fleet group ≡ line_of inventory (place_at inventory.places group)
  line-at group within =
      let names = λ (place : Place). place.name in
      let name = ap (λ names. slice_index_or names group []) of.groups ∙ get_or-map names inventory.places group nowhere [] within in
      let limit = ap (λ limits. slice_index_or limits group None) of.limits ∙ get_or-map (allowed_of inventory) inventory.places group nowhere None within in
      rw (name, limit, members-at group within, down-at group within) refl

  pub fleet_table-limits_table : fleet_table fleet ≡ limits_table inventory
  fleet_table-limits_table =
      let count = ap length of.groups ∙ length-map inventory.places (λ (place : Place). place.name) in
      let same = λ (group : ℕ) (within : group < length inventory.places). ap (fleet_line fleet) (from_zero group) ∙ line-at group within in
      let lines = ap (λ n. filter_map (fleet_line fleet) (range_with_len 0 n)) count ∙ filter_map-places (fleet_line fleet) (line_of inventory) inventory.places 0 nowhere same in
      let hosts = λ (hosts : List Name). table_text (filter_map (line_of inventory) inventory.places) (length hosts) in
      ap (λ (all : List LimitLine). table_text all (length fleet.hosts)) lines ∙ ap hosts of.hosts
