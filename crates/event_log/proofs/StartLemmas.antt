-- The summaries of hosts that start a play.
use Rattle.std.proofs.Common.{◌≡◌, ℕ, ◌-◌, ◌<◌, ◌≤◌, length, sym, ap, ◌∙◌, subst, arith, List, [], ◌∷◌, ◌++◌, Some, get_or, inl, inr, ◌⊎◌}
use Rattle.std.specs.List.{slice_get}
use Rattle.std.proofs.lemmas.Bool.{cases_lt}
use Rattle.std.proofs.lemmas.List.{get_or_append_left, get_or-append_right, length-append}
use Rattle.std.proofs.lemmas.Option.{get_or_from_slice_get, slice_get-get_or, slice_get_within}
use Rattle.play_model.specs.declared.registers.Registers.{Registers}
use Rattle.play_model.specs.declared.play.Play.{Play}
use Rattle.host_track.specs.Hosts.{Known, known_of}
use Rattle.host_vars.specs.declared.vars.Vars.{Vars}
use Rattle.host_vars.specs.HostVars.{BeginsPlay}
use Rattle.host_track.specs.Summaries.{Shows}
use Rattle.host_track.specs.declared.summary.Summary.{Summary}
use Rattle.host_track.proofs.SummaryLemmas.{kept_known}
use Rattle.event_log.specs.Works.{known_at, known_with}

-- one more summary, of the next host as it starts the play
pub shows_more : (registers : Registers) (play : Play) (vars : List Vars) (old new : List Summary) (count : ℕ) (item begun : Vars) (summary : Summary)
    → length old ≡ count → ((host : ℕ) (s : Summary) → slice_get old host ≡ Some s → Shows play (known_at vars host) [] s) → new ≡ old ++ summary ∷ []
    → count < length vars → item ≡ get_or vars count item → BeginsPlay registers begun item → Shows play (known_of begun) [] summary
    → (host : ℕ) (s : Summary) → slice_get new host ≡ Some s → Shows play (known_at vars host) [] s
shows_more registers play vars old new count item begun summary len shows grown within here same now host s got = by_case (cases_lt host count)
  where
    at : slice_get (old ++ summary ∷ []) host ≡ Some s
    at = sym (ap (λ (l : List Summary). slice_get l host) grown) ∙ got

    inside : host < length (old ++ summary ∷ [])
    inside = slice_get_within (old ++ summary ∷ []) host s at

    is : get_or (old ++ summary ∷ []) host s ≡ s
    is = get_or_from_slice_get (old ++ summary ∷ []) host s s at

    by_case : (host < count) ⊎ (count ≤ host) → Shows play (known_at vars host) [] s
    by_case (inl before) =
        let was : host < length old = omega (arith, before, len) in
        shows host s (slice_get-get_or old host s was ∙ ap Some (sym (get_or_append_left old (summary ∷ []) s host was) ∙ is))
    by_case (inr behind) =
        let last : host ≡ count = omega (arith, behind, inside, length-append old (summary ∷ []), len) in
        let first : host - count ≡ 0 = omega (arith, last) in
        let mine : get_or (old ++ summary ∷ []) host s ≡ summary = get_or-append_right old (summary ∷ []) count host s len behind ∙ ap (λ n. get_or (summary ∷ []) n s) first in
        let known : known_at vars host ≡ known_of begun = ap (known_at vars) last
        ∙ ap known_with (slice_get-get_or vars count item within ∙ ap Some (sym here))
        ∙ sym (kept_known item begun same.variables same.results same.owes) in
        subst (λ (k : Known). Shows play k [] s) (sym known) (subst (λ (x : Summary). Shows play (known_of begun) [] x) (sym mine ∙ is) now)
