-- The first group of which a batch has too many hosts, by its counts.
use Rattle.std.proofs.Common.{◌≡◌, ℕ, zero, suc, ◌+◌, ◌-◌, ◌≤◌, ◌<◌, Bool, true, false, ◌&&◌}
use Rattle.std.proofs.Common.{cond, is_some, Option, None, Some, List, length, get_or, refl, sym, ap, ◌∙◌, arith}
use Rattle.std.specs.Prelude.{option_map, unwrap_or}
use Rattle.std.specs.List.{count_by, find, range_with_len}
use Rattle.fleet_index.specs.NumberLists.{has_number, list_at}
use Rattle.domains.specs.FleetViews.{FleetView, IsSound}
use Rattle.domains.specs.Starts.{exceeds}
use Rattle.fleet_states.specs.declared.status.Status.{Status}
use Rattle.fleet_states.specs.Statuses.{down_count}
use Rattle.fleet_states.specs.Groups.{FleetGroup, group_at, groups_of, no_group, room}
use Rattle.fleet_states.proofs.CountLemmas.{count_agree}
use Rattle.fleet_states.proofs.GroupLemmas.{get_or-groups_of, group_of, length-groups_of}
use Rattle.batch_plan.specs.Checks.{chain_count}
use Rattle.plan_check.specs.Inside.{AreCounts, AreRooms, first_over}
use Rattle.plan_check.specs.declared.wrong.Wrong.TheVariants.{Over}
use Rattle.plan_check.specs.PlanErrors.{group_id, is_over, members_in, over_in, wrong_groups}

-- tests that agree find the same
find_same : (p q : ℕ → Bool) (a n : ℕ) → ((j : ℕ) → a ≤ j → j < a + n → p j ≡ q j) → find p (range_with_len a n) ≡ find q (range_with_len a n)
find_same p q a zero same = refl
find_same p q a (suc n) same =
    ap (λ b. cond b (Some a) (find p (range_with_len (a + 1) n))) (same a (omega arith) (omega arith))
    ∙ ap (λ o. cond (q a) (Some a) o) (find_same p q (a + 1) n (λ j from below. same j (omega (arith, from)) (omega (arith, below))))

record IsFoundBelow (test : ℕ → Bool) (bound place : ℕ) : Type 0 where
  within : place < bound
  passes : test place ≡ true

found_below : (test : ℕ → Bool) (a n j : ℕ) → find test (range_with_len a n) ≡ Some j → IsFoundBelow test (a + n) j
found_below test a zero j e = absurd (cc)
found_below test a (suc n) j e = by_case (test a) refl (λ later. found_below test (a + 1) n j later)
  where
    by_case : (b : Bool) → test a ≡ b → (find test (range_with_len (a + 1) n) ≡ Some j → IsFoundBelow test (a + 1 + n) j) → IsFoundBelow test (a + suc n) j
    by_case true is later =
        let here : Some a ≡ Some j = sym (ap (λ b. cond b (Some a) (find test (range_with_len (a + 1) n))) is) ∙ e in
        let same : a ≡ j = cc in
        record { within = omega (arith, same); passes = ap test (sym same) ∙ is }
    by_case false is later =
        let found = later (sym (ap (λ b. cond b (Some a) (find test (range_with_len (a + 1) n))) is) ∙ e) in
        record { within = omega (arith, found.within); passes = found.passes }

module _ (fleet : FleetView) (sound : IsSound fleet) (statuses : List Status) (rooms : List (Option ℕ)) (counts hosts : List ℕ)
    (are : AreRooms fleet statuses rooms) (counted : AreCounts fleet hosts counts) where
  abbrev by_counts : ℕ → Bool
  by_counts group = exceeds (get_or rooms group None) (get_or counts group 0)

  group_is : (group : ℕ) → group < length fleet.groups → group_at (groups_of fleet) group ≡ group_of fleet group
  group_is group within = get_or-groups_of fleet group no_group within

  -- a limited group is in the chains of its members
  limited_count : (group limit : ℕ) → get_or fleet.limits group None ≡ Some limit
      → chain_count fleet.chains group hosts ≡ count_by (λ host. has_number host (list_at fleet.members group)) hosts
  limited_count group limit is =
      count_agree (λ host. has_number group (list_at fleet.chains host)) (λ host. has_number host (list_at fleet.members group)) same hosts
    where
      same : (host : ℕ) → has_number group (list_at fleet.chains host) ≡ has_number host (list_at fleet.members group)
      same host = sound.chain_exact host group ∙ ap (λ (o : Option ℕ). is_some o && has_number host (list_at fleet.members group)) is

  abbrev room_by : Option ℕ → ℕ → Option ℕ
  room_by limit group = option_map (λ limit. limit - down_count statuses (list_at fleet.members group)) limit

  count_same : (group : ℕ) (limit : Option ℕ) → get_or fleet.limits group None ≡ limit
      → exceeds (room_by limit group) (chain_count fleet.chains group hosts) ≡ exceeds (room_by limit group) (count_by (λ host. has_number host (list_at fleet.members group)) hosts)
  count_same group None is = refl
  count_same group (Some limit) is = ap (exceeds (room_by (Some limit) group)) (limited_count group limit is)

  tests_same : (group : ℕ) → group < length fleet.groups → by_counts group ≡ is_over (groups_of fleet) statuses hosts group
  tests_same group within =
      ap (λ (o : Option ℕ). exceeds o (get_or counts group 0)) (are.1 group within ∙ ap (room statuses) (group_is group within))
      ∙ ap (exceeds (room statuses (group_of fleet group))) (counted.1 group within)
      ∙ count_same group (get_or fleet.limits group None) refl
      ∙ sym (ap (λ (g : FleetGroup). exceeds (room statuses g) (members_in hosts g)) (group_is group within))

  found_same : first_over rooms counts ≡ find (is_over (groups_of fleet) statuses hosts) (range_with_len 0 (length (groups_of fleet)))
  found_same =
      find_same by_counts (is_over (groups_of fleet) statuses hosts) 0 (length counts) (λ j from below. tests_same j (omega (arith, below, counted.0)))
      ∙ ap (λ n. find (is_over (groups_of fleet) statuses hosts) (range_with_len 0 n)) (counted.0 ∙ sym (length-groups_of fleet))

  pub over_none : (batch : ℕ) → first_over rooms counts ≡ None → None ≡ wrong_groups (groups_of fleet) statuses batch hosts
  over_none batch none = sym (ap (option_map (over_in (groups_of fleet) statuses batch hosts)) (sym found_same ∙ none))

  pub over_within : (group : ℕ) → first_over rooms counts ≡ Some group → group < length fleet.groups
  over_within group found =
      let there = found_below by_counts 0 (length counts) group found in
      omega (arith, there.within, counted.0)

  limit_there : (group : ℕ) (limit : Option ℕ) → get_or fleet.limits group None ≡ limit → exceeds (room_by limit group) (get_or counts group 0) ≡ true
      → chain_count fleet.chains group hosts ≡ count_by (λ host. has_number host (list_at fleet.members group)) hosts
  limit_there group None is over = absurd (cc)
  limit_there group (Some limit) is over = limited_count group limit is

  pub over_some : (batch group : ℕ) → first_over rooms counts ≡ Some group
      → Some (Over batch (group_id group) (get_or counts group 0) (unwrap_or (get_or rooms group None) 0)) ≡ wrong_groups (groups_of fleet) statuses batch hosts
  over_some batch group found =
      let there = found_below by_counts 0 (length counts) group found in
      let within = over_within group found in
      let free : get_or rooms group None ≡ room statuses (group_at (groups_of fleet) group) = are.1 group within in
      let own : room statuses (group_at (groups_of fleet) group) ≡ room statuses (group_of fleet group) = ap (room statuses) (group_is group within) in
      let over : exceeds (room statuses (group_of fleet group)) (get_or counts group 0) ≡ true = ap (λ (o : Option ℕ). exceeds o (get_or counts group 0)) (sym (free ∙ own)) ∙ there.passes in
      let many : get_or counts group 0 ≡ members_in hosts (group_at (groups_of fleet) group) =
      counted.1 group within ∙ limit_there group (get_or fleet.limits group None) refl over ∙ sym (ap (members_in hosts) (group_is group within)) in
      ap (λ (n : ℕ). Some (Over batch (group_id group) n (unwrap_or (get_or rooms group None) 0))) many
      ∙ ap (λ (o : Option ℕ). Some (Over batch (group_id group) (members_in hosts (group_at (groups_of fleet) group)) (unwrap_or o 0))) free
      ∙ sym (ap (option_map (over_in (groups_of fleet) statuses batch hosts)) (sym found_same ∙ found))
