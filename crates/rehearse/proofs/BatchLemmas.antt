-- A batch in which hosts fail at the first step alone.
use Rattle.std.proofs.Common.{◌≡◌, ℕ, ◌+◌, ◌^◌, ◌<◌, ◌≤◌, ◌&&◌, ◌++◌, append-nil, drop, nat_eq, Bool, true, false, cond, Option, Some, None, List, [], ◌∷◌, length, not, refl, sym, ap, ◌∙◌, subst, arith, inl, inr, ◌⊎◌, get_or, is_some, filter, find, take}
use Rattle.std.proofs.lemmas.Bool.{cases_eq, cases_lt, eq-eqb, false_from_ne_true, lt-ltb, or_left, or_right}
use Rattle.std.proofs.lemmas.List.{drop_all, get_or_past, take_all}
use Rattle.std.specs.Prelude.{IfSome, if◌then◌else◌}
use Rattle.group_tree.specs.declared.ids.HostId.{HostId}
use Rattle.fleet_index.specs.NumberLists.{are_below, has_number}
use Rattle.fleet_states.proofs.NumberLemmas.{has_other, has_own, number_below}
use Rattle.fleet_states.proofs.HostLemmas.{length-host_numbers, number_of_host}
use Rattle.domains.specs.Ids.{host_numbers}
use Rattle.fleet_states.proofs.CountLemmas.{count_agree, count_agree_in}
use Rattle.fleet_states.specs.Batches.{Fails, failed_count, failed_in, fails_in, halt, is_failed_by, statuses_after}
use Rattle.fleet_states.specs.Laws.{AgreeOn, IsLeastHalt, SameEnd}
use Rattle.fleet_states.proofs.BatchLaws.{least, own_failures_decide}
use Rattle.play_forecast.specs.declared.boundary.Boundary.{Boundary}
use Rattle.play_forecast.specs.Courses.{end_behind, end_with, halt_of, next_batch, statuses_behind}
use Rattle.rehearse.specs.Stacks.{Rules, fail_first, first_outside, where_fail}
use Rattle.fleet_states.specs.declared.status.Status.{Status}
use Rattle.play_forecast.specs.declared.end.End.{End}
use Rattle.rehearse.specs.Advances.{AreFirstSteps, IsEndOfBatch, halt_by}

-- the step at which a batch halts is one of its steps
within_steps : (fails : Fails) (batch : List ℕ) (percentage : Option ℕ) (steps : ℕ) (found : Option ℕ) → IsLeastHalt fails batch percentage steps found → IfSome found (λ step. step < steps)
within_steps fails batch percentage steps None is = tt
within_steps fails batch percentage steps (Some step) is = is.0

halt_within : (fails : Fails) (batch : List ℕ) (percentage : Option ℕ) (steps : ℕ) → IfSome (halt fails batch percentage steps) (λ step. step < steps)
halt_within fails batch percentage steps = within_steps fails batch percentage steps (halt fails batch percentage steps) (least fails batch percentage steps)

-- and is no greater than a number of steps may be
pub halt_fits : (fails : Fails) (batch : List ℕ) (percentage : Option ℕ) (steps : ℕ) (found : Option ℕ) → found ≡ halt fails batch percentage steps → steps < 2 ^ 64
    → IfSome found (λ step. step + 1 < 2 ^ 64)
halt_fits fails batch percentage steps found is fits =
    by found (subst (λ (f : Option ℕ). IfSome f (λ step. step < steps)) (sym is) (halt_within fails batch percentage steps))
  where
    by : (f : Option ℕ) → IfSome f (λ step. step < steps) → IfSome f (λ step. step + 1 < 2 ^ 64)
    by None within = tt
    by (Some step) within = omega (arith, within, fits)

-- a batch that was passed step by step
pub closed : (fails : Fails) (percentage : Option ℕ) (steps : ℕ) (boundary : Boundary) (batch : List ℕ) (copied statuses : List Status) (found : Option ℕ) (failed size : ℕ) (end : Option End)
    → batch ≡ next_batch boundary.answer → copied ≡ boundary.statuses.items → found ≡ halt fails batch percentage steps → failed ≡ failed_in fails batch found → size ≡ length batch
    → end ≡ end_with found failed size → statuses ≡ statuses_after found fails batch copied → IsEndOfBatch fails percentage steps boundary statuses end
closed fails percentage steps boundary batch copied statuses found failed size end batch_is copied_is found_is failed_is size_is end_is is =
    let at : Option ℕ = halt_by fails percentage steps boundary in
    let halted : found ≡ at = found_is ∙ ap (λ b. halt fails b percentage steps) batch_is in
    record {
      statuses_are = is ∙ ap (λ h. statuses_after h fails batch copied) halted ∙ ap (λ b. statuses_after at fails b copied) batch_is
          ∙ ap (statuses_after at fails (next_batch boundary.answer)) copied_is;
      end_is = end_is ∙ ap (λ n. end_with found n size) failed_is ∙ ap (end_with found (failed_in fails batch found)) size_is ∙ ap (λ h. end_with h (failed_in fails batch h) (length batch)) halted
          ∙ ap (λ b. end_with at (failed_in fails b at) (length b)) batch_is;
    }

-- what was written over all of a list
pub written_over : {X : Type 0} (n : ℕ) (new items : List X) → length new ≡ length items → length items ≤ n → take n (new ++ drop (length new) items) ≡ new
written_over n new items long within =
    ap (λ l. take n (new ++ l)) (drop_all (length new) items (omega (arith, long))) ∙ ap (take n) (append-nil new) ∙ take_all n new (omega (arith, long, within))

-- hosts that fail as if just the named ones failed first
module _ (rules : Rules) (named : List ℕ) (boundary : Boundary) (fails : Fails) (agree : AgreeOn (next_batch boundary.answer) fails (fail_first named)) where
  abbrev batch : List ℕ
  batch = next_batch boundary.answer

  same : SameEnd batch fails (fail_first named)
  same = own_failures_decide batch fails (fail_first named) agree

  abbrev its_halt : Option ℕ
  its_halt = halt_of (where_fail rules named) batch

  halts : halt_by fails rules.percentage 1 boundary ≡ its_halt
  halts = same.halts rules.percentage 1

  failed_alike : (found : Option ℕ) → failed_in fails batch found ≡ failed_in (fail_first named) batch found
  failed_alike None = count_agree_in (λ h. is_some (fails h)) (λ h. is_some (fail_first named h)) batch (λ h here. ap is_some (agree h here))
  failed_alike (Some step) =
      count_agree_in (λ h. is_failed_by (fails h) step) (λ h. is_failed_by (fail_first named h) step) batch (λ h here. ap (λ f. is_failed_by f step) (agree h here))

  pub statuses_are_behind : statuses_after (halt_by fails rules.percentage 1 boundary) fails batch boundary.statuses.items ≡ statuses_behind (where_fail rules named) boundary
  statuses_are_behind =
      ap (λ h. statuses_after h fails batch boundary.statuses.items) halts ∙ same.statuses its_halt boundary.statuses.items

  pub end_is_behind : end_with (halt_by fails rules.percentage 1 boundary) (failed_in fails batch (halt_by fails rules.percentage 1 boundary)) (length batch)
      ≡ end_behind (where_fail rules named) boundary
  end_is_behind =
      ap (λ h. end_with h (failed_in fails batch h) (length batch)) halts ∙ ap (λ n. end_with its_halt n (length batch)) (failed_alike its_halt)

-- who is named can fail, and nobody else
pub can_fail_named : (b : Bool) → is_some {T = ℕ} (if b then Some 0 else None) ≡ b
can_fail_named true = refl
can_fail_named false = refl

-- tests that agree find the same host
pub find_same : (test other : HostId → Bool) → ((host : HostId) → test host ≡ other host) → (hosts : List HostId) → find test hosts ≡ find other hosts
find_same test other alike [] = refl
find_same test other alike (host ∷ hosts) =
    ap (λ b. cond b (Some host) (find test hosts)) (alike host) ∙ ap (cond (other host) (Some host)) (find_same test other alike hosts)

-- tests that agree leave the same hosts
pub filter_alike : (test other : HostId → Bool) → ((host : HostId) → test host ≡ other host) → (hosts : List HostId) → filter test hosts ≡ filter other hosts
filter_alike test other alike [] = refl
filter_alike test other alike (host ∷ hosts) =
    ap (λ b. cond b (host ∷ filter test hosts) (filter test hosts)) (alike host) ∙ ap (λ (l : List HostId). cond (other host) (host ∷ l) l) (filter_alike test other alike hosts)

-- who can fail where just the batch does stands in it
module _ (hosts : ℕ) (batch : List ℕ) (failing : List (Option ℕ)) (steps : AreFirstSteps hosts batch failing) (below : are_below hosts batch ≡ true) where
  can_fail_in : (host : ℕ) → is_some (fails_in failing host) ≡ has_number host batch
  can_fail_in host = by_case (cases_lt host hosts)
    where
      by_case : (host < hosts) ⊎ (hosts ≤ host) → is_some (fails_in failing host) ≡ has_number host batch
      by_case (inl within) = ap is_some (steps.each host within) ∙ can_fail_named (has_number host batch)
      by_case (inr past) =
          ap is_some (get_or_past failing host None (omega (arith, past, steps.all)))
          ∙ sym (false_from_ne_true (has_number host batch) (λ here. absurd (omega (arith, past, number_below hosts batch host below here))))

  pub spared_is_outside : (named : List HostId) → find (λ host. not (is_some (fails_in failing host.index))) named ≡ first_outside batch named
  spared_is_outside named =
      find_same (λ host. not (is_some (fails_in failing host.index))) (λ host. not (has_number host.index batch)) (λ host. ap not (can_fail_in host.index)) named

  pub able_are_in : (marked : List HostId) → filter (λ host. is_some (fails_in failing host.index)) marked ≡ filter (λ host. has_number host.index batch) marked
  able_are_in marked =
      filter_alike (λ host. is_some (fails_in failing host.index)) (λ host. has_number host.index batch) (λ host. can_fail_in host.index) marked

-- numbers that are below a bound one by one
pub all_below : (bound : ℕ) (xs : List ℕ) → ((n : ℕ) → has_number n xs ≡ true → n < bound) → are_below bound xs ≡ true
all_below bound [] each = refl
all_below bound (x ∷ xs) each =
    ap (λ b. b && are_below bound xs) (lt-ltb x bound (each x (or_left (nat_eq x x) (has_number x xs) (eq-eqb x x refl))))
    ∙ all_below bound xs (λ n here. each n (or_right (nat_eq n x) (has_number n xs) here))

-- one named host more
module _ (named : List HostId) (i : ℕ) (none : HostId) (within : i < length named) (old now new : List (Option ℕ)) where
  abbrev at : ℕ
  at = (get_or named i none).index

  abbrev chosen : ℕ → ℕ → Option ℕ
  chosen count host = if has_number host (take count (host_numbers named)) then Some 0 else fails_in old host

  inside : i < length (host_numbers named)
  inside = omega (arith, within, length-host_numbers named)

  is_at : get_or (host_numbers named) i 0 ≡ at
  is_at = number_of_host named i none within

  pub one_more_fails : length now ≡ length old → ((host : ℕ) → host < length old → fails_in now host ≡ chosen i host) → (at < length now → fails_in new at ≡ Some 0)
      → ((host : ℕ) → (host ≡ at → ⊥) → fails_in new host ≡ fails_in now host) → (host : ℕ) → host < length old → fails_in new host ≡ chosen (i + 1) host
  one_more_fails long before own others host below = by_case (cases_eq host at)
    where
      by_case : (host ≡ at) ⊎ (host ≡ at → ⊥) → fails_in new host ≡ chosen (i + 1) host
      by_case (inl e) =
          ap (fails_in new) e ∙ own (subst (λ n. n < length now) e (omega (arith, below, long)))
          ∙ ap (λ b. if b then Some 0 else fails_in old host) (sym (has_own (host_numbers named) i inside host (e ∙ sym is_at)))
      by_case (inr other) =
          others host other ∙ before host below ∙ ap (λ b. if b then Some 0 else fails_in old host) (sym (has_other (host_numbers named) i inside host (λ e. other (e ∙ is_at))))
