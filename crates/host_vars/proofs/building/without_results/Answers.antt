use Rattle.std.proofs.Common.{◌≡◌, ℕ, ◌+◌, ◌<◌, ◌++◌, ◌∷◌, [], All, List, length, get_or, map, take, ap, sym, subst, ◌∙◌}
use Rattle.std.specs.Arc.{arc_value}
use Rattle.std.proofs.lemmas.List.{map-append, take_more}
use Rattle.std.proofs.lemmas.List.Elements.{All-push}
use Rattle.std.specs.declared.sync.Arc.{Arc}
use Rattle.host_vars.specs.declared.host.HostVariables.{HostVariables}
use Rattle.host_vars.specs.Layers.{HostView}
use Rattle.host_vars.specs.Shared.{all_shown}
use Rattle.host_vars.specs.Shown.{shown}
use Rattle.host_vars.specs.HostVars.{variables_of, HasNoResult}
use Rattle.host_vars.specs.declared.vars.Vars.{Vars}
use Rattle.host_vars.proofs.building.without_results.Goals as goal

shown_more : {Z : Type 0} (hosts : List (Arc HostVariables Z)) (i : ℕ) (host : Arc HostVariables Z) → i < length hosts → host ≡ get_or hosts i host
    → all_shown (take (i + 1) hosts) ≡ all_shown (take i hosts) ++ shown (arc_value host) ∷ []
shown_more {Z = Z} hosts i host within is =
    ap all_shown (take_more hosts i host within)
    ∙ map-append (λ h. shown (arc_value h)) (take i hosts) (get_or hosts i host ∷ [])
    ∙ ap (λ (h : Arc HostVariables Z). all_shown (take i hosts) ++ shown (arc_value h) ∷ []) (sym is)

pub loop-host-preserved : goal.loop-host-preserved
loop-host-preserved c =
    let all = c.loop-host.all.items in
    let vars = c.in_ok-without_result.field-0 in
    let hosts = c.args.hosts.now in
    let host = c.host-item.result in
    let i = c.loop-host.host-index in
    record {
      variables =
          ap (map variables_of) c.in_ok-push.ensures.items
          ∙ map-append variables_of all (vars ∷ [])
          ∙ ap (λ (view : HostView). map variables_of all ++ view ∷ []) c.in_ok-without_result.ensures.variables
          ∙ ap (λ (views : List HostView). views ++ shown (arc_value host) ∷ []) c.loop-host.invariant.variables
          ∙ sym (shown_more hosts i host c.loop-host-test.true c.host-item.is);
      results =
          subst (λ (l : List Vars). All HasNoResult l) (sym c.in_ok-push.ensures.items) (All-push HasNoResult all vars c.loop-host.invariant.results c.in_ok-without_result.ensures.results);
    }
