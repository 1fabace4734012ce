-- What is noted of the plays of a playbook.
use Rattle.std.specs.Prelude.{ℕ, ◌+◌, Bool, ◌||◌, Option, None, List, [], ◌∷◌, ◌++◌, slice_index_or, take}
use Rattle.cond.specs.Meaning.{Value}
use Rattle.group_tree.specs.Names.{Name}
use Rattle.domains.specs.FleetViews.{FleetView}
use Rattle.play_model.specs.declared.play.Play.{Play}
use Rattle.play_model.specs.declared.step.Step.{Step}
use Rattle.result_dependencies.specs.Registers.{is_registered_by, is_registered_in}
use Rattle.lint_rules.specs.Notes.{Note, noted}
use Rattle.step_lints.specs.Hosts.{WaitingHosts, Foreseen, crowd_for, play_note, waiting_for}
use Rattle.lint_command.specs.Batches.{failure_note}
use Rattle.step_lints.specs.Places.{local_play_note}
use Rattle.lint_command.specs.Unlimited.{unlimited_note}
use Rattle.step_lints.specs.Steps.{notes_at}
use Rattle.lint_rules.specs.Paths.{path_of}

-- what is noted of each element, one after the other; each is given with its place, and the list starts at this one
abbrev pub all_noted : {X : Type 0} → (ℕ → X → List Note) → ℕ → List X → List Note
all_noted notes place [] = []
all_noted notes place (x ∷ xs) = notes place x ++ all_noted notes (place + 1) xs

-- a step of an earlier play registers the name, or an earlier one of this play
abbrev pub is_set_at : (Name → Bool) → Play → ℕ → Name → Bool
is_set_at is_earlier play place name = is_earlier name || is_registered_by (take place play.steps.items) name

-- what is foreseen of its steps is given by their places, and of each on each host
abbrev pub step_notes : (Name → Bool) → WaitingHosts → (ℕ → ℕ → Foreseen) → ℕ → Play → ℕ → Step → List Note
step_notes is_earlier crowd foreseen number play place step = notes_at (is_set_at is_earlier play place) crowd foreseen play place (path_of number play place) step

-- the notes on its tasks and then its handlers
abbrev pub steps_notes : (Name → Bool) → WaitingHosts → (ℕ → ℕ → Foreseen) → ℕ → Play → List Note
steps_notes is_earlier crowd foreseen number play = all_noted (step_notes is_earlier crowd foreseen number play) 0 play.steps.items

-- the notes on its hosts and on the failures that its smallest batch tolerates; here plays are counted from 1
abbrev pub batch_notes : FleetView → Option ℕ → ℕ → Play → List Note
batch_notes fleet smallest number play =
    noted (play_note fleet number play) ++ (noted (unlimited_note fleet number (waiting_for fleet play)) ++ noted (failure_note number play.max_fail smallest))

-- those notes, the one on where its steps run, and those on its steps, whose paths count plays from 0
abbrev pub play_notes : FleetView → (Name → ℕ → Option Value) → (Name → Bool) → (ℕ → ℕ → Foreseen) → (Name → Bool) → Option ℕ → ℕ → Play → List Note
play_notes fleet value gives foreseen is_earlier smallest number play =
    batch_notes fleet smallest (number + 1) play
    ++ (noted (local_play_note (crowd_for fleet value gives play) foreseen (number + 1) play)
    ++ steps_notes is_earlier (crowd_for fleet value gives play) foreseen number play)

-- The notes on each play after those before it; of each, the size of its smallest batch is given. What is foreseen of their steps is given by the play's number, the step's place and the host.
abbrev pub plays_notes : FleetView → (Name → ℕ → Option Value) → (Name → Bool) → (ℕ → ℕ → ℕ → Foreseen) → List (Option ℕ) → List Play → List Note
plays_notes fleet value gives foreseen sizes plays =
    all_noted (λ number play. play_notes fleet value gives (foreseen number) (is_registered_in (take number plays)) (slice_index_or sizes number None) number play) 0 plays
