-- An inventory gives each host one set of variables.
use Rattle.std.proofs.Common.{◌≡◌, ℕ, suc, ◌+◌, ◌<◌, ◌≤◌, Bool, true, false, cond, Option, None, Some, List, [], ◌∷◌, length, map, get_or, refl, sym, ap, ap₂, ◌∙◌, subst, inl, inr, arith, Ordering, Less, Equal, Greater, is_lt, is_gt, is_eq, true≢false, IsPermutation, IsSorted, ◌⊎◌}
use Rattle.std.specs.List.{All, AllByRecursion, sum_by}
use Rattle.std.specs.Prelude.{slice_get, slice_index_or}
use Rattle.std.specs.Cmp.{IsTotalOrder}
use Rattle.std.specs.Cmp.Lexicographic.{on_texts}
use Rattle.std.specs.Ordering.{ordering_reverse}
use Rattle.std.proofs.Math.Path.{fun_ext}
use Rattle.std.proofs.lemmas.Bool.{cases_order}
use Rattle.std.proofs.lemmas.Cmp.{alike_right, tied_itself, upto}
use Rattle.std.proofs.lemmas.Map.Lookups.{exact_bytes}
use Rattle.std.proofs.lemmas.List.{get_or-map, get_or_default, length-map}
use Rattle.std.proofs.lemmas.List.Elements.{recursion_from_All}
use Rattle.std.proofs.lemmas.List.Sums.{sum_by-cons}
use Rattle.std.proofs.lemmas.List.Sorted.{All-permutation, sum_by-IsPermutation}
use Rattle.std.proofs.lemmas.Option.{get_or_from_slice_get, none-some, slice_get-get_or, slice_get_within}
use Rattle.play_model.specs.Results.{Row}
use Rattle.group_tree.specs.Names.{Name, are_distinct, same_name}
use Rattle.group_tree.specs.Places.{Place, Inventory}
use Rattle.group_tree.specs.Bounds.{group_names}
use Rattle.group_tree.proofs.Preorder.{same_name-self}
use Rattle.inventory_read.specs.Values.{inventory_of}
use Rattle.inventory_read.proofs.Unbroken.{keeps-distinct, unbroken-tree}
use Rattle.domains.specs.FleetViews.{FleetView}
use Rattle.domains.specs.Numbered.{host_at}
use Rattle.domains.specs.Starts.{nowhere}
use Rattle.domains.proofs.BeginLemmas.{distinct_at}
use Rattle.host_vars.specs.Layers.{HostView, IsHostOf, IsLayering, host_view, place_cmp}
use Rattle.host_vars.specs.Shared.{AreHostsOf}
use Rattle.host_vars.specs.declared.vars.Vars.{Vars}
use Rattle.host_vars.specs.HostVars.{HasNoResult, result_in, variables_of}
use Rattle.plan_command.proofs.UniqueLemmas.{one_inventory}
use Rattle.host_track.specs.Hosts.{Known, known_of}
use Rattle.event_log.specs.Works.{known_at, known_with}
use Rattle.run_command.specs.Inputs.{AreHostsIn}

-- a list that is sorted has one order, where what ties is the same
module _ {X : Type 0} (cmp : X → X → Ordering) (total : IsTotalOrder cmp) (Q : X → Type 0) (tie : (x y : X) → Q x → Q y → cmp x y ≡ Equal → x ≡ y) where
  abbrev AtMost : X → X → Type 0
  AtMost a b = is_gt (cmp a b) ≡ false

  Rises : List X → Type 0
  Rises [] = Unit {0}
  Rises (x ∷ xs) = AllByRecursion (AtMost x) xs × Rises xs

  weaker : (P R : X → Type 0) → ((z : X) → P z → R z) → (xs : List X) → AllByRecursion P xs → AllByRecursion R xs
  weaker P R more [] all = tt
  weaker P R more (x ∷ xs) all = (more x all.0, weaker P R more xs all.1)

  turned : (o : Ordering) → is_lt o ≡ false → is_gt (ordering_reverse o) ≡ false
  turned Less h = h
  turned Equal h = refl
  turned Greater h = refl

  below_all : (x : X) (ys : List X) → IsSorted cmp (x ∷ ys) → Rises ys → AllByRecursion (AtMost x) ys
  unfolding Rises
  below_all x [] sorted up = tt
  below_all x (y ∷ ys) sorted up =
      let first : AtMost x y = ap is_gt (total.antisymm x y) ∙ turned _ (sorted 0 x (omega arith) (omega arith)) in
      (first, weaker (AtMost y) (AtMost x) (λ z. upto total x y z first) ys up.0)

  rises : (xs : List X) → IsSorted cmp xs → Rises xs
  unfolding Rises
  rises [] sorted = tt
  rises (x ∷ xs) sorted =
      let tail : IsSorted cmp xs = λ k d p q. rw Rattle.std.proofs.Common.add-one (rw Rattle.std.proofs.Common.add-one at (sorted (suc k) d (omega arith) (omega arith))) in
      let up = rises xs tail in
      (below_all x xs sorted up, up)

  -- one where the two tie
  abbrev ties : X → X → ℕ
  ties x z = cond (is_eq (cmp x z)) 1 0

  untied : (x y z : X) → cmp x y ≡ Less → AtMost y z → ties x z ≡ 0
  untied x y z less up = go (cmp y z) refl up
    where
      go : (b : Ordering) → cmp y z ≡ b → is_gt b ≡ false → ties x z ≡ 0
      go Less q t = ap (λ (o : Ordering). cond (is_eq o) 1 0) (total.trans x y z less q)
      go Equal q t = ap (λ (o : Ordering). cond (is_eq o) 1 0) (sym (alike_right total y z x q) ∙ less)
      go Greater q t = absurd (true≢false t)

  none : (f : X → ℕ) (xs : List X) → AllByRecursion (λ z. f z ≡ 0) xs → sum_by f xs ≡ 0
  none f [] all = refl
  none f (x ∷ xs) all =
      let rest = none f xs all.1 in let here = all.0 in omega (arith, rest, here, sum_by-cons f x xs)

  -- the head of one list is not below that of another that has the same elements
  not_below : (x y : X) (xs ys : List X) → Rises (y ∷ ys) → sum_by (ties x) (x ∷ xs) ≡ sum_by (ties x) (y ∷ ys) → cmp x y ≡ Less → ⊥
  unfolding Rises
  not_below x y xs ys up same less =
      let here : ties x y ≡ 0 = ap (λ (o : Ordering). cond (is_eq o) 1 0) less in
      let later = none (ties x) ys (weaker (AtMost y) (λ z. ties x z ≡ 0) (λ z. untied x y z less) ys up.0) in
      let self : ties x x ≡ 1 = ap (λ (o : Ordering). cond (is_eq o) 1 0) (tied_itself total x) in
      omega (arith, here, later, self, same, sum_by-cons (ties x) x xs, sum_by-cons (ties x) y ys)

  one_order : (xs ys : List X) → AllByRecursion Q xs → AllByRecursion Q ys → Rises xs → Rises ys → ((f : X → ℕ) → sum_by f xs ≡ sum_by f ys) → xs ≡ ys
  unfolding Rises
  one_order [] [] are also up too same = refl
  one_order [] (y ∷ ys) are also up too same = let all = same (λ z. 1) in absurd (omega (arith, all, sum_by-cons (λ z. 1) y ys))
  one_order (x ∷ xs) [] are also up too same = let all = same (λ z. 1) in absurd (omega (arith, all, sum_by-cons (λ z. 1) x xs))
  one_order (x ∷ xs) (y ∷ ys) are also up too same =
      let first : x ≡ y = tie x y are.0 also.0 (go (cmp x y) refl) in
      ap₂ (λ (z : X) (zs : List X). z ∷ zs) first
      (one_order xs ys are.1 also.1 up.1 too.1 (λ f. let all = same f in let one = ap f first in omega (arith, all, one, sum_by-cons f x xs, sum_by-cons f y ys)))
    where
      go : (o : Ordering) → cmp x y ≡ o → cmp x y ≡ Equal
      go Less e = absurd (not_below x y xs ys too (same (ties x)) e)
      go Equal e = e
      go Greater e = absurd (not_below y x ys xs up (sym (same (ties y))) (total.antisymm y x ∙ ap ordering_reverse e))

-- a place by its depth and its name
abbrev key : Place → List ℕ
key place = length place.above ∷ place.name

place_total : IsTotalOrder place_cmp
place_total = on_texts key

module _ (places : List Place) (distinct : are_distinct (group_names places) ≡ true) where
  record Stands (place : Place) : Type 0 where
    at : ℕ
    within : at < length places
    is : place ≡ get_or places at nowhere

  apart : (p q : Place) (i j : ℕ) → p ≡ get_or places i nowhere → q ≡ get_or places j nowhere → i < j → j < length places → p.name ≡ q.name → ⊥
  apart p q i j p_is q_is less within same =
      let first : get_or (group_names places) i [] ≡ p.name = get_or-map (λ (place : Place). place.name) places i nowhere [] (omega arith) ∙ ap (λ (place : Place). place.name) (sym p_is) in
      let second : get_or (group_names places) j [] ≡ q.name = get_or-map (λ (place : Place). place.name) places j nowhere [] within ∙ ap (λ (place : Place). place.name) (sym q_is) in
      let differ = distinct_at (group_names places) i j [] distinct less (rw length-map within) in
      true≢false (sym (same_name-self q.name) ∙ ap (λ (name : Name). same_name name q.name) (sym (first ∙ same)) ∙ ap (same_name (get_or (group_names places) i [])) (sym second) ∙ differ)

  tied : (p q : Place) → Stands p → Stands q → place_cmp p q ≡ Equal → p ≡ q
  tied p q one two tie =
      let keys : key p ≡ key q = exact_bytes (key p) (key q) tie in
      let names : p.name ≡ q.name = cc in
      go (cases_order one.at two.at) names
    where
      go : (one.at ≡ two.at) ⊎ ((one.at < two.at) ⊎ (two.at < one.at)) → p.name ≡ q.name → p ≡ q
      go (inr (inl less)) names = absurd (apart p q one.at two.at one.is two.is less two.within names)
      go (inl same) names = one.is ∙ ap (λ (i : ℕ). get_or places i nowhere) same ∙ sym two.is
      go (inr (inr more)) names = absurd (apart q p two.at one.at two.is one.is more one.within (sym names))

  all_stand : (order : List Place) → IsPermutation places order → AllByRecursion Stands order
  all_stand order moved =
      let all : All Stands places = λ k d within. record { at = k; within = within; is = get_or_default places k d nowhere within } in
      recursion_from_All Stands order (All-permutation Stands places order moved all)

  one_layering : (order other : List Place) → IsLayering places order → IsLayering places other → order ≡ other
  one_layering order other one two =
      one_order place_cmp place_total Stands tied order other (all_stand order one.each_once) (all_stand other two.each_once)
      (rises place_cmp place_total Stands tied order one.ordered) (rises place_cmp place_total Stands tied other two.ordered)
      (λ f. sum_by-IsPermutation f places order one.each_once ∙ sym (sum_by-IsPermutation f places other two.each_once))

module _ (inventory : List ℕ) (fleet : FleetView) (vars others : List Vars) (one : AreHostsIn inventory fleet vars) (two : AreHostsIn inventory fleet others) where
  same_inventory : one.inventory ≡ two.inventory
  same_inventory = one_inventory inventory one.inventory two.inventory one.reads two.reads

  distinct : are_distinct (group_names one.inventory.places) ≡ true
  distinct =
      ap (λ (i : Inventory). are_distinct (group_names i.places)) one.reads.says
      ∙ keeps-distinct (inventory_of one.reads.document) (unbroken-tree one.reads.document one.reads.keeps_all)

  one_view : (host : Name) (view other : HostView) → IsHostOf one.inventory host view → IsHostOf one.inventory host other → view ≡ other
  one_view host view other first second =
      first.exact ∙ ap (host_view one.inventory host) (one_layering one.inventory.places distinct first.order second.order first.layering second.layering) ∙ sym second.exact

  hosts_of_other : AreHostsOf one.inventory fleet.hosts (map variables_of others)
  hosts_of_other = subst (λ (i : Inventory). AreHostsOf i fleet.hosts (map variables_of others)) (sym same_inventory) two.variables

  many : length vars ≡ length fleet.hosts
  many = sym (length-map vars variables_of) ∙ one.variables.len

  many_others : length others ≡ length fleet.hosts
  many_others = sym (length-map others variables_of) ∙ two.variables.len

  -- the variables of a host are those of the inventory, and it has no result
  same_there : (host : ℕ) (v w : Vars) → host < length fleet.hosts → slice_get vars host ≡ Some v → slice_get others host ≡ Some w → known_of v ≡ known_of w
  same_there host v w within e f =
      let first : slice_index_or (map variables_of vars) host (variables_of v) ≡ variables_of v =
      get_or-map variables_of vars host v (variables_of v) (omega (arith, within, many)) ∙ ap variables_of (get_or_from_slice_get vars host v v e) in
      let second : slice_index_or (map variables_of others) host (variables_of w) ≡ variables_of w =
      get_or-map variables_of others host w (variables_of w) (omega (arith, within, many_others)) ∙ ap variables_of (get_or_from_slice_get others host w w f) in
      let views : variables_of v ≡ variables_of w =
      sym first
      ∙ one_view (host_at fleet.hosts host) _ _ (one.variables.each host (variables_of v) within) (hosts_of_other.each host (variables_of w) within)
      ∙ second in
      let bare : HasNoResult v = subst HasNoResult (get_or_from_slice_get vars host v v e) (one.results host v (omega (arith, within, many))) in
      let also : HasNoResult w = subst HasNoResult (get_or_from_slice_get others host w w f) (two.results host w (omega (arith, within, many_others))) in
      ap₂ (λ (view : HostView) (results : Name → Option Row). known view results v.owes) views (fun_ext (λ name. bare.results name ∙ sym (also.results name)))
      ∙ ap (known (variables_of w) (result_in w)) (bare.owes ∙ sym also.owes)
    where
      known : HostView → (Name → Option Row) → Bool → Known
      known view results owes = record { variables = view; results = results; owes = owes }

  pub same_known : (host : ℕ) → known_at vars host ≡ known_at others host
  same_known host = go (slice_get vars host) refl (slice_get others host) refl
    where
      go : (o : Option Vars) → slice_get vars host ≡ o → (p : Option Vars) → slice_get others host ≡ p → known_at vars host ≡ known_at others host
      go None e None f = ap known_with e ∙ sym (ap known_with f)
      go (Some v) e (Some w) f =
          let within = slice_get_within vars host v e in
          ap known_with e ∙ same_there host v w (omega (arith, within, many)) e f ∙ sym (ap known_with f)
      go None e (Some w) f =
          let within = slice_get_within others host w f in
          absurd (none-some _ (sym e ∙ slice_get-get_or vars host w (omega (arith, within, many, many_others))))
      go (Some v) e None f =
          let within = slice_get_within vars host v e in
          absurd (none-some _ (sym f ∙ slice_get-get_or others host v (omega (arith, within, many, many_others))))
