-- The lines of the plays of a file.
use Rattle.std.proofs.Common.{◌≡◌, ℕ, ◌+◌, ◌<◌, ◌≤◌, Bool, Bor, List, [], ◌∷◌, ◌++◌, length, length-append, take, drop, get_or, sym, ap, ◌∙◌, arith, append-nil}
use Rattle.std.specs.HashMap.{HashMap}
use Rattle.std.specs.List.{flat_map}
use Rattle.std.proofs.lemmas.List.{take-append-le, take_more}
use Rattle.std.proofs.lemmas.List.Concat.{flat_map-append}
use Rattle.std.proofs.Math.Seq.{take-append-add}
use Rattle.domains.specs.FleetViews.{FleetView}
use Rattle.domains.specs.Numbered.{host_at}
use Rattle.group_tree.specs.Names.{Name}
use Rattle.host_vars.specs.Layers.{HostView}
use Rattle.play_model.specs.declared.step.Step.{Step}
use Rattle.play_model.specs.declared.play.Play.{Play}
use Rattle.command_preview.specs.Holes.{unsure_from}
use Rattle.command_preview.specs.Inside.{AreHolesOf}
use Rattle.command_preview.specs.Lines.{Line, hosts_of, line_at, lines_of_host, lines_of_play, unsure_in, view_at}
use Rattle.command_preview.specs.Unsure.{is_registered, steps_of}
use Rattle.command_preview.specs.declared.hole.Hole.{Hole}
use Rattle.command_preview.proofs.Places.{around, same_given}

-- the steps before a play, its own, and those behind it
steps_around : (plays : List Play) (i : ℕ) (play : Play) → i < length plays → play ≡ get_or plays i play
    → steps_of plays ≡ steps_of (take i plays) ++ (play.steps.items ++ steps_of (drop (i + 1) plays))
steps_around plays i play within is =
    ap steps_of (around plays i play within is) ∙ flat_map-append (λ (p : Play). p.steps.items) (take i plays) (play ∷ drop (i + 1) plays)

pub behind_more : (plays : List Play) (i before : ℕ) (play : Play) → i < length plays → play ≡ get_or plays i play → before ≡ length (steps_of (take i plays))
    → before + length play.steps.items ≡ length (steps_of (take (i + 1) plays))
behind_more plays i before play within is behind =
    let steps = steps_of (take i plays) in
    let one : steps_of (play ∷ []) ≡ play.steps.items = append-nil play.steps.items in
    let grown : steps_of (take (i + 1) plays) ≡ steps ++ play.steps.items =
    ap steps_of (take_more plays i play within) ∙ ap (λ p. steps_of (take i plays ++ p ∷ [])) (sym is)
    ∙ flat_map-append (λ (p : Play). p.steps.items) (take i plays) (play ∷ []) ∙ ap (λ l. steps ++ l) one in
    ap (λ n. n + length play.steps.items) behind ∙ sym (ap length grown ∙ length-append steps play.steps.items)

module _ {S : Type 0} (names : HashMap (Bor (List ℕ)) Hole S) (plays : List Play) (i before : ℕ) (play : Play) (within : i < length plays) (is : play ≡ get_or plays i play)
    (behind : before ≡ length (steps_of (take i plays))) (holes : AreHolesOf names plays) where
  abbrev earlier : List Step
  earlier = steps_of (take i plays)

  same_name_at : (place : ℕ) (name : Name) → place ≤ length play.steps.items → unsure_from names before place name ≡ unsure_in earlier play place name
  same_name_at place name low =
      let rest = steps_of (drop (i + 1) plays) in
      let all : take (before + place) (steps_of plays) ≡ earlier ++ take place play.steps.items =
      ap (λ l. take (before + place) l) (steps_around plays i play within is) ∙ ap (λ n. take (n + place) (earlier ++ (play.steps.items ++ rest))) behind
      ∙ take-append-add earlier (play.steps.items ++ rest) place ∙ ap (λ l. earlier ++ l) (take-append-le place play.steps.items rest low) in
      holes (before + place) name ∙ ap (λ l. is_registered l name) all

  same_line : (host : Name) (view : HostView) (place : ℕ) (step : Step) → place ≤ length play.steps.items
      → line_at (unsure_from names before) play host view place step ≡ line_at (unsure_in earlier play) play host view place step
  same_line host view place step low =
      ap (λ (unsure : Name → Bool). line_at (λ n. unsure) play host view place step) (λ j name. same_name_at place name low j)

  same_host : (host : Name) (view : HostView) → lines_of_host (unsure_from names before) play host view ≡ lines_of_host (unsure_in earlier play) play host view
  same_host host view =
      same_given (line_at (unsure_from names before) play host view) (line_at (unsure_in earlier play) play host view) 0 play.steps.items
      (λ place step low high. same_line host view place step (omega (arith, high)))

  pub same_lines : (fleet : FleetView) (views : List HostView) → lines_of_play fleet views (unsure_from names before) play ≡ lines_of_play fleet views (unsure_in earlier play) play
  same_lines fleet views =
      ap (λ (lines : ℕ → List Line). flat_map lines (hosts_of fleet play)) (λ j host. same_host (host_at fleet.hosts host) (view_at views host) j)
