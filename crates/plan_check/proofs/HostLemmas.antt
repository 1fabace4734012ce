-- The hosts of a batch, one after the other.
use Rattle.std.proofs.Common.{◌≡◌, ℕ, ◌+◌, ◌<◌, true, false, ◌++◌, None, Some, List, [], ◌∷◌, length, get_or, take, drop, refl, sym, ap, ◌∙◌, arith}
use Rattle.std.specs.Prelude.{option_map}
use Rattle.std.specs.Option.{option_or}
use Rattle.std.proofs.lemmas.List.{drop_more, take_more}
use Rattle.fleet_states.specs.declared.status.Status.{Status}
use Rattle.plan_check.specs.declared.wrong.Wrong.{Wrong}
use Rattle.plan_check.specs.declared.wrong.Wrong.TheVariants.{Missing}
use Rattle.plan_check.specs.PlanErrors.{behind, host_id, is_left_out, wrong_end, wrong_host, wrong_hosts}
use Rattle.plan_check.proofs.LawLemmas.{find_first, find_none}

behind_push : (before xs : List ℕ) (x : ℕ) → behind before (xs ++ x ∷ []) ≡ x ∷ behind before xs
behind_push before [] x = refl
behind_push before (y ∷ ys) x = behind_push (y ∷ before) ys x

module _ (statuses : List Status) (batch : ℕ) (before xs : List ℕ) (i x : ℕ) (within : i < length xs) (is : x ≡ get_or xs i 0) where
  abbrev pub so_far : List ℕ
  so_far = behind before (take i xs)

  pub stood_more : x ∷ so_far ≡ behind before (take (i + 1) xs)
  stood_more =
      ap (λ n. n ∷ so_far) is ∙ sym (behind_push before (take i xs) (get_or xs i 0)) ∙ ap (behind before) (sym (take_more xs i 0 within))

  left_here : drop i xs ≡ x ∷ drop (i + 1) xs
  left_here = drop_more xs i 0 within ∙ ap (λ n. n ∷ drop (i + 1) xs) (sym is)

  both : wrong_hosts statuses batch so_far (drop i xs) ≡ option_or (wrong_host statuses batch so_far x) (wrong_hosts statuses batch (x ∷ so_far) (drop (i + 1) xs))
  both = ap (wrong_hosts statuses batch so_far) left_here

  pub wrong_here : (wrong : Wrong) → wrong_host statuses batch so_far x ≡ Some wrong → wrong_hosts statuses batch so_far (drop i xs) ≡ Some wrong
  wrong_here wrong here = both ∙ ap (λ o. option_or o (wrong_hosts statuses batch (x ∷ so_far) (drop (i + 1) xs))) here

  pub wrong_later : wrong_host statuses batch so_far x ≡ None
      → wrong_hosts statuses batch so_far (drop i xs) ≡ wrong_hosts statuses batch (behind before (take (i + 1) xs)) (drop (i + 1) xs)
  wrong_later here =
      both ∙ ap (λ o. option_or o (wrong_hosts statuses batch (x ∷ so_far) (drop (i + 1) xs))) here
      ∙ ap (λ (l : List ℕ). wrong_hosts statuses batch l (drop (i + 1) xs)) stood_more

-- the first waiting host that stood nowhere
module _ (statuses : List Status) (before : List ℕ) where
  pub end_at : (host : ℕ) → host < length statuses → ((k : ℕ) → k < host → is_left_out statuses before k ≡ false) → is_left_out statuses before host ≡ true
      → Some (Missing (host_id host)) ≡ wrong_end statuses before
  end_at host within first here =
      sym (ap (option_map (λ h. Missing (host_id h)))
      (find_first (is_left_out statuses before) 0 (length statuses) host (λ k from less. first k less) (omega arith) (omega (arith, within)) here))

  pub end_none : ((k : ℕ) → k < length statuses → is_left_out statuses before k ≡ false) → None ≡ wrong_end statuses before
  end_none none = sym (ap (option_map (λ h. Missing (host_id h))) (find_none (is_left_out statuses before) 0 (length statuses) (λ j from below. none j (omega (arith, below)))))
