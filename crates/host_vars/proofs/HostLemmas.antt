-- A host has the variables of the groups that contain it, in order, overridden by its own.
use Rattle.std.proofs.Common.{◌≡◌, ℕ, suc, ◌+◌, ◌<◌, Bool, true, false, ◌&&◌, cond, Option, List, [], ◌∷◌, ◌++◌, length, filter, get_or, map, IsPermutation, IsSorted, sym, ap, ◌∙◌, refl, subst, arith}
use Rattle.std.specs.List.{flat_map, range_with_len}
use Rattle.std.specs.Option.{option_or}
use Rattle.std.specs.Ordering.{nat_cmp, is_lt, ordering_then}
use Rattle.std.specs.declared.cmp.Ordering.{Ordering}
use Rattle.std.specs.Cmp.Lexicographic.{slice_cmp}
use Rattle.std.proofs.lemmas.Bool.{lt-ltb}
use Rattle.std.proofs.lemmas.Grind.{flat_map-append}
use Rattle.std.proofs.lemmas.List.{get_or-map, length-map}
use Rattle.std.proofs.lemmas.List.Elements.{filter-append}
use Rattle.std.proofs.lemmas.List.FromFn.{fill_by_all}
use Rattle.std.proofs.lemmas.List.Sorted.{IsPermutation-map}
use Rattle.std.proofs.lemmas.Simd.{map-map}
use Rattle.fleet_index.specs.NumberLists.{list_at, has_number, numbers_where}
use Rattle.fleet_index.proofs.RisingLemmas.{has_number-numbers_where}
use Rattle.fleet_index.proofs.DealLemmas.{in_range}
use Rattle.group_tree.specs.Names.{Name, same_name}
use Rattle.group_tree.specs.Variables.{Scalar, Variable, value_of}
use Rattle.group_tree.specs.Places.{Place, Row, Inventory}
use Rattle.group_tree.specs.Members.{holds, is_of}
use Rattle.group_tree.specs.Subtrees.{Host, Subtree}
use Rattle.domains.specs.Walks.{PlacedGroup, place_of, row_at, own_rows, with_depth, IsWalkOf}
use Rattle.domains.specs.Starts.{nowhere, place_at}
use Rattle.domains.specs.Numbered.{host_at}
use Rattle.domains.specs.FleetViews.{FleetView}
use Rattle.domains.specs.Fleets.{IsFleetOf}
use Rattle.host_vars.specs.Layers.{place_cmp, IsLayering, holders, own_variables, variables_in, IsHostOf}
use Rattle.host_vars.specs.Tables.{LayerView, group_layer, last_value}
use Rattle.host_vars.specs.Walked.{no_subtree, walked_at, walked_cmp, IsInOrder}
use Rattle.host_vars.specs.Own.{own_in, own_below}
use Rattle.host_vars.proofs.ValueLemmas.{value_of-append}

abbrev pub place_layer : Place → LayerView
place_layer place = record { name = place.name; value = λ name. value_of name place.variables }

abbrev row_variables : Row → List Variable
row_variables row = row.variables

abbrev place_variables : Place → List Variable
place_variables place = place.variables

abbrev layer_name : LayerView → Name
layer_name layer = layer.name

abbrev nowhere_placed : PlacedGroup
nowhere_placed = record { above = []; group = no_subtree }

pub filter-map : {X : Type 0} (p : X → Bool) (q : ℕ → Bool) (f : ℕ → X) (xs : List ℕ) → ((k : ℕ) → k < length xs → q (get_or xs k 0) ≡ p (f (get_or xs k 0)))
    → filter p (map f xs) ≡ map f (filter q xs)
filter-map p q f [] same = refl
filter-map {X = X} p q f (x ∷ xs) same =
    ap (λ (b : Bool). cond b (f x ∷ filter p (map f xs)) (filter p (map f xs))) (sym (same 0 (omega arith)))
    ∙ by_case (q x) (filter-map p q f xs (λ k l. same (suc k) (omega arith)))
  where
    by_case : (b : Bool) → filter p (map f xs) ≡ map f (filter q xs) → cond b (f x ∷ filter p (map f xs)) (filter p (map f xs)) ≡ map f (cond b (x ∷ filter q xs) (filter q xs))
    by_case true rest = ap (λ (l : List X). f x ∷ l) rest
    by_case false rest = rest

pub map-same : {X : Type 0} (f g : ℕ → X) (q : ℕ → Bool) (xs : List ℕ) → ((k : ℕ) → k < length xs → f (get_or xs k 0) ≡ g (get_or xs k 0))
    → map f (filter q xs) ≡ map g (filter q xs)
map-same f g q [] same = refl
map-same {X = X} f g q (x ∷ xs) same =
    by_case (q x) (same 0 (omega arith)) (map-same f g q xs (λ k l. same (suc k) (omega arith)))
  where
    by_case : (b : Bool) → f x ≡ g x → map f (filter q xs) ≡ map g (filter q xs) → map f (cond b (x ∷ filter q xs) (filter q xs)) ≡ map g (cond b (x ∷ filter q xs) (filter q xs))
    by_case true here rest = ap (λ (y : X). y ∷ map f (filter q xs)) here ∙ ap (λ (l : List X). g x ∷ l) rest
    by_case false here rest = rest

all_places : (xs : List Place) → map (place_at xs) (range_with_len 0 (length xs)) ≡ xs
all_places xs = sym (fill_by_all (place_at xs) xs (length xs) nowhere refl (λ k l. refl))

-- the last layer that has a name has the last value of all the layers' variables
last_of_all : (name : Name) (places : List Place) → last_value name (map place_layer places) ≡ value_of name (flat_map place_variables places)
last_of_all name [] = refl
last_of_all name (place ∷ places) =
    ap (λ (o : Option Scalar). option_or o (value_of name place.variables)) (last_of_all name places)
    ∙ sym (value_of-append name place.variables (flat_map place_variables places))

pub as_long : (inventory : Inventory) (fleet : FleetView) (walk : List (Subtree × ℕ)) → IsFleetOf inventory fleet → IsWalkOf inventory 0 walk → length fleet.groups ≡ length walk
as_long inventory fleet walk made walked =
    ap length made.groups
    ∙ length-map inventory.places (λ (place : Place). place.name)
    ∙ ap length walked.places
    ∙ length-map walked.placed_groups place_of
    ∙ sym (ap length walked.walked ∙ length-map walked.placed_groups (with_depth 0))

module _ (host : Name) where
  -- the host's rows in a list
  abbrev rows_in : List Row → List Row
  rows_in = filter (is_of host)

  abbrev is_same : Host → Bool
  is_same own = same_name host own.name

  abbrev host_variables : Host → List Variable
  host_variables own = own.variables

  of_hosts : (place : Place) (hosts : List Host) → flat_map row_variables (rows_in (map (row_at place) hosts)) ≡ own_in host hosts
  of_hosts place [] = refl
  of_hosts place (own ∷ hosts) = by_case (same_name host own.name) (of_hosts place hosts)
    where
      others : List Row
      others = rows_in (map (row_at place) hosts)

      by_case : (b : Bool) → flat_map row_variables others ≡ own_in host hosts
          → flat_map row_variables (cond b (row_at place own ∷ others) others) ≡ flat_map host_variables (cond b (own ∷ filter is_same hosts) (filter is_same hosts))
      by_case true rest = ap (λ (l : List Variable). own.variables ++ l) rest
      by_case false rest = rest

  of_groups : (placed : List PlacedGroup) → flat_map row_variables (rows_in (flat_map own_rows placed)) ≡ own_below host (map (with_depth 0) placed)
  of_groups [] = refl
  of_groups (one ∷ placed) =
      ap (flat_map row_variables) (filter-append (is_of host) (own_rows one) later)
      ∙ flat_map-append row_variables (rows_in (own_rows one)) (rows_in later)
      ∙ ap (λ (l : List Variable). l ++ flat_map row_variables (rows_in later)) (of_hosts (place_of one) one.group.hosts)
      ∙ ap (λ (l : List Variable). own_in host one.group.hosts ++ l) (of_groups placed)
    where
      later : List Row
      later = flat_map own_rows placed

module _ (inventory : Inventory) (fleet : FleetView) (host : ℕ) (walk : List (Subtree × ℕ)) (order : List ℕ)
    (made : IsFleetOf inventory fleet) (within : host < length fleet.hosts) (walked : IsWalkOf inventory 0 walk)
    (once : IsPermutation (range_with_len 0 (length walk)) order) (ordered : IsInOrder walk order) where
  abbrev all : List Place
  all = inventory.places

  abbrev own_name : Name
  own_name = host_at fleet.hosts host

  abbrev placed : ℕ → PlacedGroup
  placed n = get_or walked.placed_groups n nowhere_placed

  abbrev laid : List Place
  laid = map (place_at all) order

  -- the layer of a group, and whether the group contains the host
  abbrev layer_of : ℕ → LayerView
  layer_of n = group_layer (walked_at walk n).0

  abbrev is_holder : ℕ → Bool
  is_holder n = has_number host (list_at fleet.members n)

  abbrev held_places : List Place
  held_places = holders inventory own_name laid

  few : length all ≡ length walked.placed_groups
  few = ap length walked.places ∙ length-map walked.placed_groups place_of

  long : length walk ≡ length all
  long = ap length walked.walked ∙ length-map walked.placed_groups (with_depth 0) ∙ sym few

  group_there : (n : ℕ) → n < length all → walked_at walk n ≡ with_depth 0 (placed n)
  group_there n l =
      ap (λ (w : List (Subtree × ℕ)). walked_at w n) walked.walked
      ∙ get_or-map (with_depth 0) walked.placed_groups n nowhere_placed (no_subtree, 0) (omega (arith, few))

  place_there : (n : ℕ) → n < length all → place_at all n ≡ place_of (placed n)
  place_there n l =
      ap (λ (p : List Place). place_at p n) walked.places
      ∙ get_or-map place_of walked.placed_groups n nowhere_placed nowhere (omega (arith, few))

  once_each : IsPermutation (range_with_len 0 (length all)) order
  once_each = subst (λ (n : ℕ). IsPermutation (range_with_len 0 n) order) long once

  below : (k : ℕ) → k < length order → get_or order k 0 < length all
  below = in_range (length all) order once_each

  layer_there : (n : ℕ) → n < length all → group_layer (walked_at walk n).0 ≡ place_layer (place_at all n)
  layer_there n l =
      ap (λ (w : Subtree × ℕ). group_layer w.0) (group_there n l) ∙ sym (ap place_layer (place_there n l))

  same_cmp : (n m : ℕ) → n < length all → m < length all → walked_cmp walk n m ≡ place_cmp (place_at all n) (place_at all m)
  same_cmp n m l k =
      ap (λ (w : Subtree × ℕ). cmp w.1 (walked_at walk m).1 w.0.name (walked_at walk m).0.name) (group_there n l)
      ∙ ap (λ (w : Subtree × ℕ). cmp (0 + length (placed n).above) w.1 (placed n).group.name w.0.name) (group_there m k)
      ∙ ap (λ (a : ℕ). cmp a (0 + length (placed m).above) (placed n).group.name (placed m).group.name) (zero_more (length (placed n).above))
      ∙ ap (λ (a : ℕ). cmp (length (placed n).above) a (placed n).group.name (placed m).group.name) (zero_more (length (placed m).above))
      ∙ sym (ap (λ (p : Place). place_cmp p (place_at all m)) (place_there n l) ∙ ap (λ (p : Place). place_cmp (place_of (placed n)) p) (place_there m k))
    where
      cmp : ℕ → ℕ → Name → Name → Ordering
      cmp depth other name named = ordering_then (nat_cmp depth other) (slice_cmp nat_cmp name named)

      zero_more : (k : ℕ) → 0 + k ≡ k
      zero_more k = omega arith

  layering : IsLayering all laid
  layering =
      record {
        each_once = subst (λ (l : List Place). IsPermutation l laid) (all_places all) (IsPermutation-map (place_at all) (range_with_len 0 (length all)) order once_each);
        ordered = rising;
      }
    where
      rising : IsSorted place_cmp laid
      rising k d low more =
          let count : length laid ≡ length order = length-map order (place_at all) in
          let next : get_or laid (k + 1) d ≡ place_at all (get_or order (k + 1) 0) = get_or-map (place_at all) order (k + 1) 0 d (omega arith) in
          let here : get_or laid k d ≡ place_at all (get_or order k 0) = get_or-map (place_at all) order k 0 d (omega arith) in
          ap (λ (p : Place). is_lt (place_cmp p (get_or laid k d))) next
          ∙ ap (λ (p : Place). is_lt (place_cmp (place_at all (get_or order (k + 1) 0)) p)) here
          ∙ sym (ap is_lt (same_cmp (get_or order (k + 1) 0) (get_or order k 0) (below (k + 1) (omega arith)) (below k (omega arith))))
          ∙ ordered k 0 low (omega arith)

  member_there : (n : ℕ) → n < length all → has_number host (list_at fleet.members n) ≡ holds inventory (place_at all n).name own_name
  member_there n l =
      let members : list_at fleet.members n ≡ hosts_in (place_at all n) = ap (λ (m : List (List ℕ)). list_at m n) made.members ∙ get_or-map hosts_in all n nowhere [] l in
      ap (has_number host) members
      ∙ has_number-numbers_where (is_in (place_at all n)) (length fleet.hosts) host
      ∙ ap (λ (b : Bool). b && holds inventory (place_at all n).name own_name) (lt-ltb host (length fleet.hosts) within)
    where
      is_in : Place → ℕ → Bool
      is_in place h = holds inventory place.name (host_at fleet.hosts h)

      hosts_in : Place → List ℕ
      hosts_in place = numbers_where (is_in place) (length fleet.hosts)

  held : held_places ≡ map (place_at all) (filter is_holder order)
  held =
      filter-map (λ (place : Place). holds inventory place.name own_name) is_holder (place_at all) order (λ k l. member_there (get_or order k 0) (below k l))

  layers_are : map layer_of (filter is_holder order) ≡ map place_layer held_places
  layers_are =
      map-same layer_of (λ n. place_layer (place_at all n)) is_holder order (λ k l. layer_there (get_or order k 0) (below k l))
      ∙ sym (map-map place_layer (place_at all) (filter is_holder order))
      ∙ sym (ap (map place_layer) held)

  own_are : own_below own_name walk ≡ own_variables inventory own_name
  own_are =
      ap (own_below own_name) walked.walked
      ∙ sym (of_groups own_name walked.placed_groups)
      ∙ sym (ap (λ (rows : List Row). flat_map row_variables (filter (is_of own_name) rows)) walked.rows)

  pub host_made : (name : Name) (layers : List LayerView) (own : Name → Option Scalar) → name ≡ own_name → layers ≡ map layer_of (filter is_holder order)
      → ((variable : Name) → own variable ≡ value_of variable (own_below own_name walk))
      → IsHostOf inventory own_name (record { name = name; groups = map layer_name layers; variable = λ variable. option_or (own variable) (last_value variable layers) })
  host_made name layers own named laid_out values =
      record {
        order = laid;
        layering = layering;
        exact = λ i. record { name = named i; groups = groups i; variable = λ variable. values_are variable i };
      }
    where
      are : layers ≡ map place_layer held_places
      are = laid_out ∙ layers_are

      groups : map layer_name layers ≡ map (λ (place : Place). place.name) held_places
      groups =
          ap (map layer_name) are ∙ map-map layer_name place_layer held_places

      values_are : (variable : Name) → option_or (own variable) (last_value variable layers) ≡ value_of variable (variables_in inventory own_name laid)
      values_are variable =
          ap (λ (o : Option Scalar). option_or o (last_value variable layers)) (values variable ∙ ap (value_of variable) own_are)
          ∙ ap (option_or (value_of variable (own_variables inventory own_name))) (ap (last_value variable) are ∙ last_of_all variable held_places)
          ∙ sym (value_of-append variable (flat_map place_variables held_places) (own_variables inventory own_name))
