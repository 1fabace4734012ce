-- Nothing is wrong with batches exactly where they are a plan.
use Rattle.std.proofs.Common.{◌≡◌, ℕ, zero, suc, ◌+◌, ◌<◌, ◌≤◌, Bool, true, false, ◌&&◌, ◌||◌, not, nat_eq, nat_lt, cond}
use Rattle.std.proofs.Common.{Option, None, Some, List, [], ◌∷◌, length, get_or, refl, sym, ap, ◌∙◌, arith, inl, inr, ◌⊎◌}
use Rattle.std.specs.Prelude.{option_map, if◌then◌else◌}
use Rattle.std.specs.List.{count_by, find, list_all, range_with_len}
use Rattle.std.specs.Option.{option_or}
use Rattle.std.proofs.lemmas.Bool.{and_from, and_parts, cases_eq, eq-eqb, false_from_ne_true, lt-ltb, ltb-true, ne_eqb, not-true}
use Rattle.std.proofs.lemmas.List.{get_or_default}
use Rattle.std.proofs.lemmas.List.Sums.{AllPass-from_list_all, list_all-from_AllPass, sum_by-cons}
use Rattle.fleet_index.specs.NumberLists.{has_number, list_at}
use Rattle.domains.specs.FleetViews.{FleetView, IsSound}
use Rattle.domains.specs.Starts.{exceeds}
use Rattle.fleet_states.specs.declared.status.Status.{Status}
use Rattle.fleet_states.specs.Statuses.{is_waiting, status_at}
use Rattle.fleet_states.specs.Groups.{FleetGroup, group_at, groups_of, no_group, room}
use Rattle.fleet_states.proofs.CountLemmas.{bit, count_by-cons}
use Rattle.fleet_states.proofs.NumberLemmas.{list_all_number}
use Rattle.batch_plan.specs.Plans.{IsPlan, times_in}
use Rattle.batch_plan.specs.Checks.{due, keep_room, keeps_cap, keeps_room}
use Rattle.batch_plan.proofs.CountLemmas.{count_absent}
use Rattle.batch_plan.proofs.ExactLemmas.{plan_from, plan_keeps_cap, plan_keeps_room}
use Rattle.plan_check.specs.declared.wrong.Wrong.{Wrong}
use Rattle.plan_check.specs.declared.wrong.Wrong.TheVariants.{NotWaiting, Size, Twice}
use Rattle.plan_check.specs.PlanErrors.{behind, host_id, is_left_out, is_over, over_in, wrong_batch, wrong_from, wrong_groups, wrong_host, wrong_hosts, wrong_size, wrong_start, first_plan_error}

or_none : {T : Type 0} (a b : Option T) → option_or a b ≡ None → (a ≡ None) × (b ≡ None)
or_none None b e = (refl, e)
or_none (Some x) b e = absurd (cc)

map_none : {T U : Type 0} (f : T → U) (o : Option T) → option_map f o ≡ None → o ≡ None
map_none f None e = refl
map_none f (Some x) e = absurd (cc)

-- no number from `a` on, of so many, passes
pub none_found : (test : ℕ → Bool) (a n j : ℕ) → find test (range_with_len a n) ≡ None → a ≤ j → j < a + n → test j ≡ false
none_found test a zero j e from below = absurd (omega arith)
none_found test a (suc n) j e from below =
    by_case (λ rest past. none_found test (a + 1) n j rest past (omega (arith, below))) (test a) refl (cases_eq a j)
  where
    by_case : (find test (range_with_len (a + 1) n) ≡ None → a + 1 ≤ j → test j ≡ false) → (b : Bool) → test a ≡ b → (a ≡ j) ⊎ (a ≡ j → ⊥) → test j ≡ false
    by_case later true is here =
        let found : find test (range_with_len a (suc n)) ≡ Some a = ap (λ b. cond b (Some a) (find test (range_with_len (a + 1) n))) is in
        absurd (cc)
    by_case later false is (inl same) = ap test (sym same) ∙ is
    by_case later false is (inr other) =
        later (sym (ap (λ b. cond b (Some a) (find test (range_with_len (a + 1) n))) is) ∙ e) (omega (arith, from, other))

pub find_none : (test : ℕ → Bool) (a n : ℕ) → ((j : ℕ) → a ≤ j → j < a + n → test j ≡ false) → find test (range_with_len a n) ≡ None
find_none test a zero none = refl
find_none test a (suc n) none =
    ap (λ b. cond b (Some a) (find test (range_with_len (a + 1) n))) (none a (omega arith) (omega arith))
    ∙ find_none test (a + 1) n (λ j from below. none j (omega (arith, from)) (omega (arith, below)))

pub find_first : (test : ℕ → Bool) (a n j : ℕ) → ((k : ℕ) → a ≤ k → k < j → test k ≡ false)
    → a ≤ j → j < a + n → test j ≡ true → find test (range_with_len a n) ≡ Some j
find_first test a zero j before from below here = absurd (omega arith)
find_first test a (suc n) j before from below here =
    by_case (λ past. find_first test (a + 1) n j (λ k over less. before k (omega (arith, over)) less) past (omega (arith, below)) here) (cases_eq a j)
  where
    by_case : (a + 1 ≤ j → find test (range_with_len (a + 1) n) ≡ Some j) → (a ≡ j) ⊎ (a ≡ j → ⊥) → find test (range_with_len a (suc n)) ≡ Some j
    by_case later (inl same) = ap (λ b. cond b (Some a) (find test (range_with_len (a + 1) n))) (ap test same ∙ here) ∙ ap Some same
    by_case later (inr other) =
        ap (λ b. cond b (Some a) (find test (range_with_len (a + 1) n))) (before a (omega arith) (omega (arith, from, other)))
        ∙ later (omega (arith, from, other))

-- one number more in front
number_more : (h x : ℕ) (before : List ℕ) → has_number x before ≡ false → bit (has_number h (x ∷ before)) ≡ bit (has_number h before) + bit (nat_eq h x)
number_more h x before fresh = by_case (cases_eq h x)
  where
    by_case : (h ≡ x) ⊎ (h ≡ x → ⊥) → bit (has_number h (x ∷ before)) ≡ bit (has_number h before) + bit (nat_eq h x)
    by_case (inl same) =
        let gone : has_number h before ≡ false = ap (λ n. has_number n before) same ∙ fresh in
        let here : nat_eq h x ≡ true = eq-eqb h x same in
        let left : bit (has_number h (x ∷ before)) ≡ 1 = ap (λ b. bit (b || has_number h before)) here in
        omega (arith, left, ap bit gone, ap bit here)
    by_case (inr other) =
        let here : nat_eq h x ≡ false = ne_eqb h x other in
        let left : bit (has_number h (x ∷ before)) ≡ bit (has_number h before) = ap (λ b. bit (b || has_number h before)) here in
        omega (arith, left, ap bit here)

number_most : (h x : ℕ) (before : List ℕ) → bit (has_number h (x ∷ before)) ≤ bit (has_number h before) + bit (nat_eq h x)
number_most h x before = most (nat_eq h x) (has_number h before)
  where
    most : (a b : Bool) → bit (a || b) ≤ bit b + bit a
    most true true = omega arith
    most true false = omega arith
    most false true = omega arith
    most false false = omega arith

pub bit_small : (b : Bool) → bit b ≤ 1
bit_small true = omega arith
bit_small false = omega arith

module _ (statuses : List Status) where
  abbrev waits : ℕ → Bool
  waits host = is_waiting (status_at statuses host)

  abbrev chosen : ℕ → ℕ → Bool → Bool → Option Wrong
  chosen number host a b = if not a then Some (NotWaiting number (host_id host)) else (if b then Some (Twice number (host_id host)) else None)

  host_none : (number host : ℕ) (before : List ℕ) → wrong_host statuses number before host ≡ None → (waits host ≡ true) × (has_number host before ≡ false)
  host_none number host before e = by_case (waits host) (has_number host before) e
    where
      by_case : (a b : Bool) → chosen number host a b ≡ None → (a ≡ true) × (b ≡ false)
      by_case true true e = absurd (cc)
      by_case true false e = (refl, refl)
      by_case false b e = absurd (cc)

  pub host_fine : (number host : ℕ) (before : List ℕ) → waits host ≡ true → has_number host before ≡ false → wrong_host statuses number before host ≡ None
  host_fine number host before waiting fresh =
      ap (λ a. chosen number host a (has_number host before)) waiting ∙ ap (chosen number host true) fresh

  -- the hosts of a batch in which nothing is wrong wait, and stood nowhere before
  pub hosts_none : (number : ℕ) (before hosts : List ℕ) → wrong_hosts statuses number before hosts ≡ None
      → (list_all waits hosts ≡ true) × ((h : ℕ) → bit (has_number h before) + count_by (nat_eq h) hosts ≡ bit (has_number h (behind before hosts)))
  hosts_none number before [] e = (refl, λ h. omega arith)
  hosts_none number before (x ∷ xs) e =
      let both = or_none (wrong_host statuses number before x) (wrong_hosts statuses number (x ∷ before) xs) e in
      let here = host_none number x before both.0 in
      let later = hosts_none number (x ∷ before) xs both.1 in
      (and_from (waits x) (list_all waits xs) here.0 later.0, λ h. omega (arith, later.1 h, count_by-cons (nat_eq h) x xs, number_more h x before here.1))

  hosts_fine : (number : ℕ) (before hosts : List ℕ) → list_all waits hosts ≡ true → ((h : ℕ) → bit (has_number h before) + count_by (nat_eq h) hosts ≤ 1)
      → wrong_hosts statuses number before hosts ≡ None
  hosts_fine number before [] all once = refl
  hosts_fine number before (x ∷ xs) all once =
      let parts = and_parts (waits x) (list_all waits xs) all in
      let own : bit (nat_eq x x) ≡ 1 = ap bit (eq-eqb x x refl) in
      let fresh = none_left (has_number x before) (omega (arith, once x, count_by-cons (nat_eq x) x xs, own)) in
      let later = hosts_fine number (x ∷ before) xs parts.1 (λ h. omega (arith, once h, count_by-cons (nat_eq h) x xs, number_most h x before)) in
      ap (λ o. option_or o (wrong_hosts statuses number (x ∷ before) xs)) (host_fine number x before parts.0 fresh) ∙ later
    where
      none_left : (b : Bool) → bit b ≤ 0 → b ≡ false
      none_left true few = absurd (omega arith)
      none_left false few = refl

  start_none : (number : ℕ) (batch : List ℕ) → wrong_start number batch ≡ None → nat_lt 0 (length batch) ≡ true
  start_none number [] e = absurd (cc)
  start_none number (x ∷ xs) e = lt-ltb 0 (length (x ∷ xs)) (omega arith)

  start_fine : (number : ℕ) (batch : List ℕ) → nat_lt 0 (length batch) ≡ true → wrong_start number batch ≡ None
  start_fine number [] some = absurd (omega (arith, ltb-true 0 0 some))
  start_fine number (x ∷ xs) some = refl

  size_none : (cap : Option ℕ) (number : ℕ) (batch : List ℕ) → wrong_size cap number batch ≡ None → exceeds cap (length batch) ≡ false
  size_none None number batch e = refl
  size_none (Some size) number batch e = by_case (nat_lt size (length batch)) e
    where
      by_case : (b : Bool) → (if b then Some (Size number (length batch) size) else None) ≡ None → b ≡ false
      by_case true e = absurd (cc)
      by_case false e = refl

  size_fine : (cap : Option ℕ) (number : ℕ) (batch : List ℕ) → exceeds cap (length batch) ≡ false → wrong_size cap number batch ≡ None
  size_fine None number batch e = refl
  size_fine (Some size) number batch e = ap (λ b. if b then Some (Size number (length batch) size) else None) e

  -- hosts that don't wait stand in no batch of waiting hosts
  idle_none : (hosts : List ℕ) (h : ℕ) → list_all waits hosts ≡ true → waits h ≡ false → count_by (nat_eq h) hosts ≡ 0
  idle_none hosts h all idle =
      count_absent h hosts (false_from_ne_true (has_number h hosts) (λ here. let waiting = list_all_number waits hosts h all here in absurd (cc)))

  due_by : (h : ℕ) (b : Bool) → waits h ≡ b → due statuses h ≡ bit b
  due_by h b is = ap (λ a. cond a 1 0) is

  left_out : (before : List ℕ) (h : ℕ) → is_left_out statuses before h ≡ false → due statuses h ≤ bit (has_number h before)
  left_out before h e = few (waits h) (has_number h before) e
    where
      few : (a b : Bool) → (a && not b) ≡ false → cond a 1 0 ≤ bit b
      few true true e = omega arith
      few true false e = absurd (cc)
      few false b e = omega arith

  none_left_out : (before : List ℕ) (h : ℕ) → bit (has_number h before) ≡ due statuses h → is_left_out statuses before h ≡ false
  none_left_out before h e = none (waits h) (has_number h before) e
    where
      none : (a b : Bool) → bit b ≡ cond a 1 0 → (a && not b) ≡ false
      none true true e = refl
      none true false e = absurd (omega (arith, e))
      none false b e = refl

  module _ (fleet : FleetView) (cap : Option ℕ) where
    -- what is said of batches with which nothing is wrong, where these hosts stood before
    record AreFine (before : List ℕ) (batches : List (List ℕ)) : Type 0 where
      keep : list_all (keeps_cap statuses cap) batches ≡ true
      rooms : (place group : ℕ) → place < length batches → group < length (groups_of fleet) → is_over (groups_of fleet) statuses (list_at batches place) group ≡ false
      times : (h : ℕ) → h < length statuses → bit (has_number h before) + times_in batches h ≡ due statuses h

    groups_none : (number : ℕ) (batch : List ℕ) → wrong_groups (groups_of fleet) statuses number batch ≡ None
        → (group : ℕ) → group < length (groups_of fleet) → is_over (groups_of fleet) statuses batch group ≡ false
    groups_none number batch e group within =
        none_found (is_over (groups_of fleet) statuses batch) 0 (length (groups_of fleet)) group
        (map_none (over_in (groups_of fleet) statuses number batch) (find (is_over (groups_of fleet) statuses batch) (range_with_len 0 (length (groups_of fleet)))) e)
        (omega arith) (omega (arith, within))

    groups_fine : (number : ℕ) (batch : List ℕ) → ((group : ℕ) → group < length (groups_of fleet) → is_over (groups_of fleet) statuses batch group ≡ false)
        → wrong_groups (groups_of fleet) statuses number batch ≡ None
    groups_fine number batch none =
        ap (option_map (over_in (groups_of fleet) statuses number batch))
        (find_none (is_over (groups_of fleet) statuses batch) 0 (length (groups_of fleet)) (λ j from below. none j (omega (arith, below))))

    batch_none : (number : ℕ) (before batch : List ℕ) → wrong_batch fleet statuses cap number before batch ≡ None
        → (wrong_start number batch ≡ None) × (wrong_hosts statuses number before batch ≡ None) × (wrong_size cap number batch ≡ None)
        × (wrong_groups (groups_of fleet) statuses number batch ≡ None)
    batch_none number before batch e =
        let size = wrong_size cap number batch in
        let groups = wrong_groups (groups_of fleet) statuses number batch in
        let first = or_none (wrong_start number batch) (option_or (wrong_hosts statuses number before batch) (option_or size groups)) e in
        let second = or_none (wrong_hosts statuses number before batch) (option_or size groups) first.1 in
        let third = or_none size groups second.1 in
        (first.0, second.0, third.0, third.1)

    from_none : (number : ℕ) (before : List ℕ) (batches : List (List ℕ)) → ((h : ℕ) → bit (has_number h before) ≤ due statuses h)
        → wrong_from fleet statuses cap number before batches ≡ None → AreFine before batches
    from_none number before [] stood e = record {
      keep = refl;
      rooms = λ place group within inside. absurd (omega arith);
      times = λ h within. omega (
        arith,
        stood h,
        left_out before h
            (none_found (is_left_out statuses before) 0 (length statuses) h
            (map_none (λ host. _) (find (is_left_out statuses before) (range_with_len 0 (length statuses))) e) (omega arith) (omega (arith, within))),
      );
    }
    from_none number before (batch ∷ batches) stood e =
        let both = or_none (wrong_batch fleet statuses cap number before batch) (wrong_from fleet statuses cap (number + 1) (behind before batch) batches) e in
        let parts = batch_none number before batch both.0 in
        let hosts = hosts_none number before batch parts.1 in
        let some = start_none number batch parts.0 in
        let size = size_none cap number batch parts.2 in
        let later = from_none (number + 1) (behind before batch) batches (λ h. after h hosts (waits h) refl) both.1 in
        record {
          keep = and_from (keeps_cap statuses cap batch) (list_all (keeps_cap statuses cap) batches)
              (and_from (nat_lt 0 (length batch)) (not (exceeds cap (length batch)) && list_all waits batch) some
              (and_from (not (exceeds cap (length batch))) (list_all waits batch) (ap not size) hosts.0)) later.keep;
          rooms = room_at (groups_none number batch parts.3) later.rooms;
          times = λ h within. omega (arith, hosts.1 h, later.times h within, sum_by-cons (λ batch. count_by (nat_eq h) batch) batch batches);
        }
      where
        after : (h : ℕ) → (list_all waits batch ≡ true) × ((h : ℕ) → bit (has_number h before) + count_by (nat_eq h) batch ≡ bit (has_number h (behind before batch)))
            → (b : Bool) → waits h ≡ b → bit (has_number h (behind before batch)) ≤ due statuses h
        after h hosts true is = omega (arith, due_by h true is, bit_small (has_number h (behind before batch)))
        after h hosts false is = omega (arith, due_by h false is, hosts.1 h, idle_none batch h hosts.0 is, stood h)

        room_at : ((group : ℕ) → group < length (groups_of fleet) → is_over (groups_of fleet) statuses batch group ≡ false)
            → ((place group : ℕ) → place < length batches → group < length (groups_of fleet) → is_over (groups_of fleet) statuses (list_at batches place) group ≡ false)
            → (place group : ℕ) → place < length (batch ∷ batches) → group < length (groups_of fleet)
            → is_over (groups_of fleet) statuses (list_at (batch ∷ batches) place) group ≡ false
        room_at here later zero group within inside = here group inside
        room_at here later (suc place) group within inside = later place group (omega (arith, within)) inside

    from_fine : (number : ℕ) (before : List ℕ) (batches : List (List ℕ)) → AreFine before batches
        → ((h : ℕ) → bit (has_number h before) + times_in batches h ≤ 1) → wrong_from fleet statuses cap number before batches ≡ None
    from_fine number before [] fine once =
        ap (option_map (λ host. _))
        (find_none (is_left_out statuses before) 0 (length statuses) (λ j from below. none_left_out before j (omega (arith, fine.times j (omega (arith, below))))))
    from_fine number before (batch ∷ batches) fine once =
        let parts = and_parts (keeps_cap statuses cap batch) (list_all (keeps_cap statuses cap) batches) fine.keep in
        let inner = and_parts (nat_lt 0 (length batch)) (not (exceeds cap (length batch)) && list_all waits batch) parts.0 in
        let wait = and_parts (not (exceeds cap (length batch))) (list_all waits batch) inner.1 in
        let hosts = hosts_fine number before batch wait.1 (λ h. omega (arith, once h, sum_by-cons (λ batch. count_by (nat_eq h) batch) batch batches)) in
        let moved = hosts_none number before batch hosts in
        let later = from_fine (number + 1) (behind before batch) batches (rest moved.1 parts.1)
        (λ h. omega (arith, once h, moved.1 h, sum_by-cons (λ batch. count_by (nat_eq h) batch) batch batches)) in
        let after : Option Wrong = wrong_from fleet statuses cap (number + 1) (behind before batch) batches in
        let groups : Option Wrong = wrong_groups (groups_of fleet) statuses number batch in
        let size : Option Wrong = wrong_size cap number batch in
        ap (λ o. option_or (option_or o (option_or (wrong_hosts statuses number before batch) (option_or size groups))) after) (start_fine number batch inner.0)
        ∙ ap (λ o. option_or (option_or o (option_or size groups)) after) hosts
        ∙ ap (λ o. option_or (option_or o groups) after) (size_fine cap number batch (not-true (exceeds cap (length batch)) wait.0))
        ∙ ap (λ o. option_or o after) (groups_fine number batch (λ group inside. fine.rooms 0 group (omega arith) inside))
        ∙ later
      where
        rest : ((h : ℕ) → bit (has_number h before) + count_by (nat_eq h) batch ≡ bit (has_number h (behind before batch)))
            → list_all (keeps_cap statuses cap) batches ≡ true → AreFine (behind before batch) batches
        rest moved keep = record {
          keep = keep;
          rooms = λ place group within inside. fine.rooms (suc place) group (omega (arith, within)) inside;
          times = λ h within. omega (arith, moved h, fine.times h within, sum_by-cons (λ batch. count_by (nat_eq h) batch) batch batches);
        }

    group_same : (g : ℕ) (e : FleetGroup) → g < length (groups_of fleet) → get_or (groups_of fleet) g e ≡ group_at (groups_of fleet) g
    group_same g e inside = get_or_default (groups_of fleet) g e no_group inside

    batch_same : (batches : List (List ℕ)) (k : ℕ) (d : List ℕ) → k < length batches → get_or batches k d ≡ list_at batches k
    batch_same batches k d within = get_or_default batches k d [] within

    abbrev keeps_group : FleetGroup → List ℕ → Bool
    keeps_group group batch = keeps_room (room statuses group) group.members batch

    rooms_kept : (batches : List (List ℕ))
        → ((place group : ℕ) → place < length batches → group < length (groups_of fleet) → is_over (groups_of fleet) statuses (list_at batches place) group ≡ false)
        → list_all (keep_room statuses batches) (groups_of fleet) ≡ true
    rooms_kept batches rooms = list_all-from_AllPass (keep_room statuses batches) (groups_of fleet) each
      where
        each : (g : ℕ) (e : FleetGroup) → g < length (groups_of fleet) → keep_room statuses batches (get_or (groups_of fleet) g e) ≡ true
        each g e inside =
            ap (keep_room statuses batches) (group_same g e inside)
            ∙ list_all-from_AllPass (keeps_group (group_at (groups_of fleet) g)) batches
            (λ k d l. ap (keeps_group (group_at (groups_of fleet) g)) (batch_same batches k d l) ∙ ap not (rooms k g l inside))

    kept_rooms : (batches : List (List ℕ)) → list_all (keep_room statuses batches) (groups_of fleet) ≡ true
        → (place group : ℕ) → place < length batches → group < length (groups_of fleet) → is_over (groups_of fleet) statuses (list_at batches place) group ≡ false
    kept_rooms batches keep place group within inside =
        let all : keep_room statuses batches (group_at (groups_of fleet) group) ≡ true = AllPass-from_list_all (keep_room statuses batches) (groups_of fleet) keep group no_group inside in
        not-true (is_over (groups_of fleet) statuses (list_at batches place) group)
        (AllPass-from_list_all (keeps_group (group_at (groups_of fleet) group)) batches all place [] within)

    pub is_plan : (batches : List (List ℕ)) → IsSound fleet → first_plan_error fleet statuses cap batches ≡ None → IsPlan (groups_of fleet) statuses cap batches
    is_plan batches sound e =
        let fine = from_none 1 [] batches (λ h. omega arith) e in
        plan_from fleet statuses cap batches sound (λ host within. omega (arith, fine.times host within)) fine.keep (rooms_kept batches fine.rooms)

    pub plan_is_fine : (batches : List (List ℕ)) → IsPlan (groups_of fleet) statuses cap batches → first_plan_error fleet statuses cap batches ≡ None
    plan_is_fine batches plan =
        from_fine 1 [] batches
        (record {
          keep = plan_keeps_cap fleet statuses cap batches plan;
          rooms = kept_rooms batches (plan_keeps_room fleet statuses cap batches plan);
          times = λ h within. omega (arith, plan.once h);
        })
        (λ h. omega (arith, plan.once h, bit_small (waits h)))
