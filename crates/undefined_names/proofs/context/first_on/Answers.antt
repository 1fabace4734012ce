use Rattle.std.proofs.Common.{◌≡◌, ◌+◌, ℕ, Bor, List, get_or, slice_get, ap, ◌∙◌}
use Rattle.domains.specs.Numbered.{host_at}
use Rattle.group_tree.specs.Names.{Name}
use Rattle.host_track.specs.Hosts.{Known}
use Rattle.host_vars.specs.HostVars.{HasNoResult, known_of, variables_of}
use Rattle.host_vars.specs.declared.vars.Vars.{Vars}
use Rattle.command_preview.specs.Inside.{views_of}
use Rattle.command_preview.specs.Lines.{fresh, view_at}
use Rattle.command_preview.proofs.Waiting.{fresh_without, view_there}
use Rattle.undefined_names.specs.NoValues.{UndefinedRead}
use Rattle.undefined_names.specs.Spots.{missed_at}
use Rattle.undefined_names.proofs.Firsts.{miss_first, miss_none}
use Rattle.undefined_names.proofs.context.first_on.Goals as goal

-- the host begins with its variables alone
begins : (vars : List Vars) (i : ℕ) (one : Vars) → HasNoResult (get_or vars i one) → variables_of (get_or vars i one) ≡ view_at (views_of vars) i
    → known_of (get_or vars i one) ≡ fresh (view_at (views_of vars) i)
begins vars i one bare view = fresh_without (get_or vars i one) bare ∙ ap fresh view

pub returns-in-Some : goal.returns-in-Some
returns-in-Some c =
    let registry = c.args.scene.now.registry.now in
    let vars : List Vars = c.args.scene.now.vars.now in
    let spot = c.args.spot in
    let host : ℕ = spot.host.index in
    let one : Vars = c.index-scene-spot.result in
    let known = begins vars host one (c.requires.bare host one c.requires.within) (view_there vars host one c.requires.within) in
    let told = c.in_ok-names.ensures ∙ ap (λ (k : Known). missed_at registry.fleet.now registry.plays.now spot.play spot.place host k) known in
    let first = c.in-Some.ensures.value ∙ ap (λ (l : List (Bor Name)). slice_get l 0) c.as_slice.ensures.value in
    let miss : Name → UndefinedRead = λ name. record { play = spot.play + 1; step = spot.place + 1; host = host_at registry.fleet.now.hosts host; name = name } in
    miss_first miss c.in_ok-names.names.items c.in-Some.name.now _ told first

pub returns : goal.returns
returns c =
    let registry = c.args.scene.now.registry.now in
    let vars : List Vars = c.args.scene.now.vars.now in
    let spot = c.args.spot in
    let host : ℕ = spot.host.index in
    let one : Vars = c.index-scene-spot.result in
    let known = begins vars host one (c.requires.bare host one c.requires.within) (view_there vars host one c.requires.within) in
    let told = c.in_ok-names.ensures ∙ ap (λ (k : Known). missed_at registry.fleet.now registry.plays.now spot.play spot.place host k) known in
    let first = c.in-None.ensures.value ∙ ap (λ (l : List (Bor Name)). slice_get l 0) c.as_slice.ensures.value in
    let miss : Name → UndefinedRead = λ name. record { play = spot.play + 1; step = spot.place + 1; host = host_at registry.fleet.now.hosts host; name = name } in
    miss_none miss c.in_ok-names.names.items _ told first
