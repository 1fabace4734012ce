-- The hosts of a play, and what is known of them.
use Rattle.std.proofs.Common.{◌≡◌, ℕ, zero, suc, ◌+◌, ◌<◌, Bool, true, false, cond, List, [], ◌∷◌, ◌++◌, length, get_or, nat_lt, sym, ap, subst, ◌∙◌, refl, arith}
use Rattle.std.specs.Prelude.{All}
use Rattle.std.proofs.lemmas.List.{map-append}
use Rattle.std.proofs.lemmas.List.{get_or-map}
use Rattle.std.proofs.lemmas.List.Elements.{All-append}
use Rattle.fleet_index.specs.Ids.{host_numbers}
use Rattle.fleet_index.specs.NumberLists.{numbers_where}
use Rattle.fleet_index.proofs.RisingLemmas.{numbers_where_more}
use Rattle.group_tree.specs.Names.{Name}
use Rattle.group_tree.specs.declared.ids.HostId.{HostId}
use Rattle.host_vars.specs.Layers.{HostView}
use Rattle.host_track.specs.Hosts.{Known}
use Rattle.play_model.specs.declared.step.Step.{Step}
use Rattle.play_model.specs.declared.play.Play.{Play}
use Rattle.host_vars.specs.HostVars.{HasNoResult, known_of, variables_of}
use Rattle.host_vars.specs.declared.vars.Vars.{Vars}
use Rattle.command_preview.specs.Inside.{views_of}
use Rattle.command_preview.specs.Previews.{StepPreview, foretold}
use Rattle.command_preview.specs.Lines.{Line, fresh, line_at, view_at}

abbrev pub told_line : Name → ℕ → StepPreview → Line
told_line host place told = record { host = host; number = place + 1; told = told }

pub waiting_more : (p : ℕ → Bool) (n : ℕ) (hosts new : List HostId) (host : HostId) (waits : Bool) → host_numbers hosts ≡ numbers_where p n → host.index ≡ n → waits ≡ p n
    → new ≡ hosts ++ cond waits (host ∷ []) [] → host_numbers new ≡ numbers_where p (n + 1)
waiting_more p n hosts new host waits before named so grown =
    ap host_numbers grown ∙ map-append (λ (h : HostId). h.index) hosts (cond waits (host ∷ []) []) ∙ ap (λ l. host_numbers hosts ++ l) (by_case waits)
    ∙ ap (λ l. l ++ cond waits (n ∷ []) []) before ∙ ap (λ b. numbers_where p n ++ cond b (n ∷ []) []) so ∙ sym (numbers_where_more p n)
  where
    by_case : (b : Bool) → host_numbers (cond b (host ∷ []) []) ≡ cond b (n ∷ []) []
    by_case true = ap (λ index. index ∷ []) named
    by_case false = refl

pub within_more : (bound : ℕ) (hosts new : List HostId) (host : HostId) (waits : Bool) → All (λ (h : HostId). h.index < bound) hosts → host.index < bound
    → new ≡ hosts ++ cond waits (host ∷ []) [] → All (λ (h : HostId). h.index < bound) new
within_more bound hosts new host waits before within grown =
    subst (All (λ (h : HostId). h.index < bound)) (sym grown) (All-append (λ (h : HostId). h.index < bound) hosts (cond waits (host ∷ []) []) before (by_case waits))
  where
    one_host : (k : ℕ) (d : HostId) → k < 1 → (get_or (host ∷ []) k d).index < bound
    one_host zero d low = within
    one_host (suc k) d low = absurd (omega (arith, low))

    by_case : (b : Bool) → All (λ (h : HostId). h.index < bound) (cond b (host ∷ []) [])
    by_case true = λ k d low. one_host k d low
    by_case false = λ k d low. absurd (omega (arith, low))

-- a host without results
pub fresh_without : (one : Vars) → HasNoResult one → known_of one ≡ fresh (variables_of one)
fresh_without one none = λ j. record { variables = variables_of one; results = λ name. none.results name j; owes = none.owes j }

pub view_there : (vars : List Vars) (i : ℕ) (d : Vars) → i < length vars → variables_of (get_or vars i d) ≡ view_at (views_of vars) i
view_there vars i d within = sym (get_or-map variables_of vars i d _ within)

-- the line of a step, by what the host and the play say
pub told_same : (unsure : ℕ → Name → Bool) (play : Play) (host name : Name) (view : HostView) (known : Known) (place tasks : ℕ) (step : Step)
    → name ≡ host → known ≡ fresh view → tasks ≡ play.tasks → told_line name place (foretold (unsure place) (nat_lt place tasks) known step) ≡ line_at unsure play host view place step
told_same unsure play host name view known place tasks step named so many =
    λ j. told_line (named j) place (foretold (unsure place) (nat_lt place (many j)) (so j) step)
