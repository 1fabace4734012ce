-- The tree of a fleet's limited groups, built in preorder.
use Rattle.std.proofs.Common.{◌≡◌, ℕ, ◌+◌, ◌≤◌, ◌<◌, Bool, true, false, ◌&&◌, Some, None, List, [], ◌∷◌, ◌++◌, map, length, get_or, take, replicate, sym, ap}
use Rattle.std.proofs.Common.{◌∙◌, refl, arith, add-one, length-append}
use Rattle.std.proofs.lemmas.List.{map-append, append-nil, length-replicate}
use Rattle.std.proofs.Math.Seq.{take-append_seam}
use Rattle.fleet_index.specs.NumberLists.{bit, numbers_where}
use Rattle.fleet_index.specs.Chains.{is_limited}
use Rattle.domains.specs.FleetViews.{FleetView, IsSound}
use Rattle.batch_plan.specs.declared.place.Place.{Place}
use Rattle.batch_plan.specs.declared.place.Place.TheVariants.{Up}
use Rattle.batch_plan.specs.Nodes.{Node, Subtree, own_node, side_by_side}
use Rattle.batch_plan.specs.Shapes.{last_path}
use Rattle.batch_plan.specs.Counts.{Counted, limited_above, stands_below, node_at, nodes_at, bare, bare_before, IsCounted}
use Rattle.batch_plan.proofs.WhereLemmas.{where_suc, map_where, length-where, only}
use Rattle.batch_plan.proofs.PathLemmas.{IsBelow, above_none, above_parent, last_known}
use Rattle.batch_plan.proofs.FleetLemmas.{nobody_waits}

module _ (fleet : FleetView) where
  -- the limited groups above a group, and its node before any host is counted
  abbrev above : ℕ → List ℕ
  above group = limited_above fleet.limits fleet.parents group

  abbrev node_of : ℕ → Node
  node_of = bare fleet.limits fleet.parents

  preorder : IsSound fleet → (group parent : ℕ) → get_or fleet.parents group None ≡ Some parent → (parent < group) × IsBelow fleet.parents parent group
  preorder sound group parent is =
      (sound.parents_before group parent is, (sound.preorder group parent is).parent_there)

  pub depth_none : IsSound fleet → (group : ℕ) → get_or fleet.parents group None ≡ None → length (above group) ≡ 0
  depth_none sound group is =
      ap length (above_none fleet.limits fleet.parents (preorder sound) group is)

  pub depth_more : IsSound fleet → (group parent : ℕ) → get_or fleet.parents group None ≡ Some parent
      → length (above group) ≡ length (above parent) + bit (is_limited fleet.limits parent)
  depth_more sound group parent is =
      ap length (above_parent fleet.limits fleet.parents (preorder sound) group parent is)
      ∙ length-append (above parent) (only (is_limited fleet.limits parent) parent)
      ∙ ap (λ n. length (above parent) + n) (by (is_limited fleet.limits parent))
    where
      by : (b : Bool) → length (only b parent) ≡ bit b
      by true = refl
      by false = refl

  pub depth_small : (group : ℕ) → length (above group) ≤ group
  depth_small group =
      length-where (λ top. is_limited fleet.limits top && stands_below fleet.parents top group) group

  pub deep_enough : (group : ℕ) → length (above group) ≤ length (last_path (bare_before fleet group))
  deep_enough group =
      let on = last_known fleet.limits fleet.parents group group (omega arith) (λ x l h. absurd (omega (arith, l, h))) in
      omega (arith, ap length on.is, length-append (above group) on.rest)

  numbers_more : (group : ℕ)
      → numbers_where (is_limited fleet.limits) (group + 1) ≡ numbers_where (is_limited fleet.limits) group ++ only (is_limited fleet.limits group) group
  numbers_more group = ap (numbers_where (is_limited fleet.limits)) (add-one group) ∙ where_suc (is_limited fleet.limits) group

  pub one_more : (group depth : ℕ) (leaf : Subtree) (nodes more : List Node) → is_limited fleet.limits group ≡ true → depth ≡ length (above group)
      → leaf ≡ record { group = group; waiting = 0; down = 0; below = [] } → nodes ≡ bare_before fleet group
      → more ≡ nodes ++ record (own_node leaf) { above = take depth (last_path nodes) } ∷ [] → more ≡ bare_before fleet (group + 1)
  one_more group depth leaf nodes more limited deep is before grown =
      let added : Node = record (own_node leaf) { above = take depth (last_path nodes) } in
      let on = last_known fleet.limits fleet.parents group group (omega arith) (λ x l h. absurd (omega (arith, l, h))) in
      let path : take depth (last_path nodes) ≡ above group =
      ap (λ (l : List Node). take depth (last_path l)) before
      ∙ ap (λ k. take k (last_path (bare_before fleet group))) deep
      ∙ ap (take (length (above group))) on.is
      ∙ take-append_seam (above group) on.rest in
      let node : added ≡ node_of group =
      ap (λ (t : Subtree). record (own_node t) { above = take depth (last_path nodes) }) is
      ∙ ap (λ (l : List ℕ). record (bare fleet.limits fleet.parents group) { above = l }) path in
      let groups : bare_before fleet (group + 1) ≡ bare_before fleet group ++ node_of group ∷ [] =
      ap (map node_of) (numbers_more group ∙ ap (λ b. numbers_where (is_limited fleet.limits) group ++ only b group) limited)
      ∙ map-append node_of (numbers_where (is_limited fleet.limits) group) (group ∷ []) in
      grown
      ∙ ap (λ (l : List Node). l ++ added ∷ []) before
      ∙ ap (λ (n : Node). bare_before fleet group ++ n ∷ []) node
      ∙ sym groups

  pub no_more : (group : ℕ) → is_limited fleet.limits group ≡ false → bare_before fleet group ≡ bare_before fleet (group + 1)
  no_more group unlimited =
      let numbers : List ℕ = numbers_where (is_limited fleet.limits) group in
      sym (ap (map node_of) (numbers_more group ∙ ap (λ b. numbers ++ only b group) unlimited ∙ append-nil numbers))

  pub all_up : (hosts : ℕ) → bare_before fleet (length fleet.groups) ≡ nodes_at (record { fleet = fleet; places = replicate hosts Up })
  all_up hosts =
      let idle : Counted = record { fleet = fleet; places = replicate hosts Up } in
      map_where node_of (node_at idle) (is_limited fleet.limits) (length fleet.groups) (λ group l limited. sym (nobody_waits fleet hosts group))

-- a fleet with all hosts up
pub starts_counted : (fleet : FleetView) (places : List Place) (tops : List Subtree) (hosts : ℕ) → IsSound fleet → hosts ≡ length fleet.hosts
    → places ≡ replicate hosts Up → side_by_side tops ≡ bare_before fleet (length fleet.groups)
    → IsCounted (record { fleet = fleet; places = places }) tops
starts_counted fleet places tops hosts sound count up grown = record {
  sound = sound;
  all_placed = ap length up ∙ length-replicate hosts Up ∙ count;
  nodes = grown ∙ all_up fleet hosts ∙ ap (λ (l : List Place). nodes_at (record { fleet = fleet; places = l })) (sym up);
}
