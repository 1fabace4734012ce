-- Batches, one after the other.
use Rattle.std.proofs.Common.{◌≡◌, ℕ, ◌+◌, ◌≤◌, ◌<◌, Bool, true, false, ◌&&◌, nat_lt, Option, None, Some}
use Rattle.std.proofs.Common.{List, [], ◌∷◌, length, get_or, take, drop, replicate, refl, sym, ap, ◌∙◌, arith, length-take}
use Rattle.std.specs.List.{count_by, list_all}
use Rattle.std.specs.Option.{option_or}
use Rattle.std.proofs.lemmas.Bool.{and_from, and_parts, lt-ltb}
use Rattle.std.proofs.lemmas.List.{drop_more, get_or-replicate, get_or-take, length-replicate}
use Rattle.fleet_index.specs.NumberLists.{are_below, has_number, numbers_where}
use Rattle.fleet_index.proofs.RisingLemmas.{has_number-numbers_where}
use Rattle.domains.specs.FleetViews.{FleetView}
use Rattle.fleet_states.specs.declared.status.Status.{Status}
use Rattle.fleet_states.specs.Statuses.{are_distinct}
use Rattle.fleet_states.proofs.CountLemmas.{bit, count_by-cons}
use Rattle.batch_plan.proofs.CountLemmas.{count_within, distinct_counted}
use Rattle.batch_plan.proofs.FittingLemmas.{known_hosts}
use Rattle.batch_plan.proofs.WhereLemmas.{length-where}
use Rattle.plan_check.specs.Inside.{AreMarks}
use Rattle.plan_check.specs.declared.wrong.Wrong.{Wrong}
use Rattle.plan_check.specs.PlanErrors.{behind, wrong_batch, wrong_from, wrong_hosts}
use Rattle.plan_check.proofs.LawLemmas.{bit_small, hosts_none}

-- the hosts whose marks are set
abbrev pub marked_hosts : List Bool → List ℕ
marked_hosts stood = numbers_where (λ host. get_or stood host false) (length stood)

pub are_marked : (stood : List Bool) → AreMarks stood (marked_hosts stood)
are_marked stood host within =
    sym (has_number-numbers_where (λ host. get_or stood host false) (length stood) host ∙ ap (λ b. b && get_or stood host false) (lt-ltb host (length stood) within))

count_all : (test : ℕ → Bool) (xs : List ℕ) → list_all test xs ≡ true → count_by test xs ≡ length xs
count_all test [] all = refl
count_all test (x ∷ xs) all =
    let both = and_parts (test x) (list_all test xs) all in
    omega (arith, count_by-cons test x xs, ap bit both.0, count_all test xs both.1)

within_range : (bound : ℕ) (xs : List ℕ) → are_below bound xs ≡ true → list_all (λ y. has_number y (numbers_where (λ n. true) bound)) xs ≡ true
within_range bound [] below = refl
within_range bound (x ∷ xs) below =
    let both = and_parts (nat_lt x bound) (are_below bound xs) below in
    and_from (has_number x (numbers_where (λ n. true) bound)) (list_all (λ y. has_number y (numbers_where (λ n. true) bound)) xs)
    (has_number-numbers_where (λ n. true) bound x ∙ ap (λ b. b && true) both.0) (within_range bound xs both.1)

-- the hosts of a batch in which none is wrong are hosts of the fleet, and each stands once
module _ (statuses : List Status) (number : ℕ) (before hosts : List ℕ) (fine : wrong_hosts statuses number before hosts ≡ None) where
  pub hosts_known : (bound : ℕ) → length statuses ≡ bound → are_below bound hosts ≡ true
  hosts_known bound long = known_hosts statuses bound hosts long (hosts_none statuses number before hosts fine).0

  hosts_distinct : are_distinct hosts ≡ true
  hosts_distinct =
      distinct_counted hosts (λ n. omega (arith, (hosts_none statuses number before hosts fine).1 n, bit_small (has_number n (behind before hosts))))

  pub hosts_few : length hosts ≤ length statuses
  hosts_few =
      omega (
        arith,
        count_all (λ y. has_number y (numbers_where (λ n. true) (length statuses))) hosts (within_range (length statuses) hosts (hosts_known (length statuses) refl)),
        count_within (numbers_where (λ n. true) (length statuses)) hosts hosts_distinct,
        length-where (λ n. true) (length statuses),
      )

module _ (fleet : FleetView) (statuses : List Status) (cap : Option ℕ) (place : ℕ) (later : List ℕ) (batches : List (List ℕ)) (batch : List ℕ)
    (within : place < length batches) (is : batch ≡ get_or batches place []) where
  left_here : drop place batches ≡ batch ∷ drop (place + 1) batches
  left_here = drop_more batches place [] within ∙ ap (λ (l : List ℕ). l ∷ drop (place + 1) batches) (sym is)

  both : wrong_from fleet statuses cap (place + 1) later (drop place batches)
      ≡ option_or (wrong_batch fleet statuses cap (place + 1) later batch) (wrong_from fleet statuses cap (place + 1 + 1) (behind later batch) (drop (place + 1) batches))
  both = ap (wrong_from fleet statuses cap (place + 1) later) left_here

  pub batch_wrong : (wrong : Wrong) → wrong_batch fleet statuses cap (place + 1) later batch ≡ Some wrong
      → wrong_from fleet statuses cap (place + 1) later (drop place batches) ≡ Some wrong
  batch_wrong wrong here =
      both ∙ ap (λ o. option_or o (wrong_from fleet statuses cap (place + 1 + 1) (behind later batch) (drop (place + 1) batches))) here

  pub batch_fine : wrong_batch fleet statuses cap (place + 1) later batch ≡ None
      → wrong_from fleet statuses cap (place + 1) later (drop place batches) ≡ wrong_from fleet statuses cap (place + 1 + 1) (behind later batch) (drop (place + 1) batches)
  batch_fine here =
      both ∙ ap (λ o. option_or o (wrong_from fleet statuses cap (place + 1 + 1) (behind later batch) (drop (place + 1) batches))) here

-- the front of a list of one value
pub front_same : {A : Type 0} (a d : A) (n count place : ℕ) → place < length (take n (replicate count a)) → get_or (take n (replicate count a)) place d ≡ a
front_same a d n count place within =
    let below : place < n = omega (arith, within, length-take n (replicate count a), length-replicate count a) in
    let inside : place < count = omega (arith, within, length-take n (replicate count a), length-replicate count a) in
    get_or-take n (replicate count a) place d below ∙ get_or-replicate count place a d inside
