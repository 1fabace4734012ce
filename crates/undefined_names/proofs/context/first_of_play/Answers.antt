use Rattle.std.proofs.Common.{◌≡◌, ◌+◌, ◌<◌, ℕ, suc, List, Option, None, drop, flat_map, length, option_map, sym, ap, ◌∙◌, arith}
use Rattle.std.specs.Option.{option_or}
use Rattle.domains.specs.Ids.{host_numbers}
use Rattle.group_tree.specs.declared.ids.HostId.{HostId}
use Rattle.play_model.specs.declared.step.Step.{Step}
use Rattle.command_preview.specs.Inside.{views_of}
use Rattle.undefined_names.specs.NoValues.{UndefinedRead, first_of, miss_seen, misses_of_step, misses_on}
use Rattle.undefined_names.proofs.Firsts.{first_at, next_place, stops}
use Rattle.undefined_names.proofs.context.first_of_play.Goals as goal

pub loop-place-preserved : goal.loop-place-preserved
loop-place-preserved c =
    let registry = c.args.scene.now.registry.now in
    let views = views_of c.args.scene.now.vars.now in
    let play = c.args.play.now in
    let steps : List Step = play.steps.items in
    let place : ℕ = c.loop-place.place in
    let on : ℕ → List UndefinedRead = misses_on registry.fleet.now views registry.plays.now c.args.number place in
    let lists : ℕ → List UndefinedRead = λ (n : ℕ). misses_of_step registry.fleet.now views registry.plays.now c.args.number play n in
    let rest : Option UndefinedRead = first_at (λ (n : ℕ) (step : Step). lists n) (place + 1) (drop (suc place) steps) in
    let here : option_map (miss_seen registry.fleet.now) c.in_ok-found.found ≡ first_of (lists place) =
    c.in_ok-found.ensures ∙ ap (λ (l : List HostId). first_of (flat_map on (host_numbers l))) c.as_slice.ensures.value ∙ ap (λ (l : List ℕ). first_of (flat_map on l)) c.in_ok-hosts.ensures.are in
    let none : first_of (lists place) ≡ None = sym here ∙ ap (option_map (miss_seen registry.fleet.now)) c.in-None.is in
    let low : place < length steps = omega (arith, c.loop-place-test.true, ap length c.steps-place-end.ensures.value) in
    let more = next_place {X = Step} lists steps place place low in
    let after : place + 1 ≡ suc place = omega arith in
    ap (λ (n : ℕ). first_at (λ (n : ℕ) (step : Step). lists n) (place + 1) (drop n steps)) after ∙ sym (ap (λ (o : Option UndefinedRead). option_or o rest) none) ∙ sym more ∙ c.loop-place.invariant

pub returns-in_default : goal.returns-in_default
returns-in_default c =
    let registry = c.args.scene.now.registry.now in
    let views = views_of c.args.scene.now.vars.now in
    let play = c.args.play.now in
    let steps : List Step = play.steps.items in
    let place : ℕ = c.loop-place.place in
    let on : ℕ → List UndefinedRead = misses_on registry.fleet.now views registry.plays.now c.args.number place in
    let lists : ℕ → List UndefinedRead = λ (n : ℕ). misses_of_step registry.fleet.now views registry.plays.now c.args.number play n in
    let rest : Option UndefinedRead = first_at (λ (n : ℕ) (step : Step). lists n) (place + 1) (drop (suc place) steps) in
    let here : option_map (miss_seen registry.fleet.now) c.in_ok-found.found ≡ first_of (lists place) =
    c.in_ok-found.ensures ∙ ap (λ (l : List HostId). first_of (flat_map on (host_numbers l))) c.as_slice.ensures.value ∙ ap (λ (l : List ℕ). first_of (flat_map on l)) c.in_ok-hosts.ensures.are in
    let low : place < length steps = omega (arith, c.loop-place-test.true, ap length c.steps-place-end.ensures.value) in
    let more = next_place {X = Step} lists steps place place low in
    stops (miss_seen registry.fleet.now) c.in_ok-found.found (first_of (lists place)) rest here c.in_default.not-None ∙ sym more ∙ c.loop-place.invariant
