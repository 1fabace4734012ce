-- Hosts that plays name, play by play.
use Rattle.std.proofs.Common.{◌≡◌, ℕ, ◌+◌, ◌<◌, ◌||◌, ◌⊎◌, inl, inr, Bool, true, false, List, [], ◌∷◌, ◌++◌, length, take, get_or, sym, ap, ◌∙◌, arith}
use Rattle.std.specs.List.{list_any}
use Rattle.std.proofs.lemmas.Bool.{cases_eq}
use Rattle.std.proofs.lemmas.List.{take_more}
use Rattle.std.proofs.lemmas.List.Folds.{list_any-append}
use Rattle.std.proofs.Math.Bool.{or-true, or-false}
use Rattle.group_tree.specs.declared.ids.HostId.{HostId}
use Rattle.fleet_index.specs.NumberLists.{has_number}
use Rattle.fleet_index.proofs.NumberLemmas.{has_other, has_own}
use Rattle.domains.specs.FleetViews.{FleetView}
use Rattle.domains.specs.Ids.{host_numbers}
use Rattle.fleet_states.proofs.HostLemmas.{length-host_numbers, number_of_host}
use Rattle.play_model.specs.declared.play.Play.{Play}
use Rattle.play_forecast.specs.PlayPlans.{targets}
use Rattle.run_diagnosis.specs.LeftOut.{is_named}

-- one more host gets its flag
pub flagged_more : (hosts : List HostId) (i : ℕ) (d : HostId) → i < length hosts → (old known now : List Bool) → length known ≡ length old
    → ((place : ℕ) → place < length old → get_or known place false ≡ (get_or old place false || has_number place (take i (host_numbers hosts))))
    → ((get_or hosts i d).index < length known → get_or now (get_or hosts i d).index false ≡ true)
    → ((other : ℕ) → (other ≡ (get_or hosts i d).index → ⊥) → get_or now other false ≡ get_or known other false)
    → (place : ℕ) → place < length old → get_or now place false ≡ (get_or old place false || has_number place (take (i + 1) (host_numbers hosts)))
flagged_more hosts i d within old known now len was own others place inside = by_case (cases_eq place (get_or hosts i d).index)
  where
    number : get_or (host_numbers hosts) i 0 ≡ (get_or hosts i d).index
    number = number_of_host hosts i d within

    there : i < length (host_numbers hosts)
    there = omega (arith, within, length-host_numbers hosts)

    by_case : (place ≡ (get_or hosts i d).index) ⊎ (place ≡ (get_or hosts i d).index → ⊥)
        → get_or now place false ≡ (get_or old place false || has_number place (take (i + 1) (host_numbers hosts)))
    by_case (inl same) =
        ap (λ k. get_or now k false) same ∙ own (omega (arith, inside, len, same)) ∙ sym (or-true (get_or old place false))
        ∙ ap (λ b. get_or old place false || b) (sym (has_own (host_numbers hosts) i there place (same ∙ sym number)))
    by_case (inr apart) =
        others place apart ∙ was place inside
        ∙ ap (λ b. get_or old place false || b) (sym (has_other (host_numbers hosts) i there place (λ e. apart (e ∙ number))))

-- one more play
pub named_more : (fleet : FleetView) (host : ℕ) (known now : Bool) (hosts : List ℕ) (plays : List Play) (i : ℕ) (play : Play) → i < length plays → play ≡ get_or plays i play
    → hosts ≡ targets fleet play → known ≡ is_named fleet (take i plays) host → now ≡ (known || has_number host hosts) → now ≡ is_named fleet (take (i + 1) plays) host
named_more fleet host known now hosts plays i play within is are was told =
    let front = take i plays in
    let test : Play → Bool = λ play. has_number host (targets fleet play) in
    let more : take (i + 1) plays ≡ front ++ play ∷ [] = take_more plays i play within ∙ ap (λ p. front ++ p ∷ []) (sym is) in
    told ∙ ap (λ k. k || has_number host hosts) was ∙ ap (λ l. is_named fleet front host || has_number host l) are
    ∙ ap (λ b. is_named fleet front host || b) (sym (or-false (has_number host (targets fleet play))))
    ∙ sym (ap (list_any test) more ∙ list_any-append test front (play ∷ []))
