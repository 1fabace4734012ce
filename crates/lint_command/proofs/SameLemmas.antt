-- Notes by tests that agree.
use Rattle.std.proofs.Common.{◌≡◌, ℕ, Bool, Option, Result, Ok, Err, List, ◌++◌, map, ap, ◌∙◌}
use Rattle.std.specs.Prelude.{All, IfOk}
use Rattle.cond.specs.Meaning.{Value}
use Rattle.group_tree.specs.Names.{Name}
use Rattle.domains.specs.FleetViews.{FleetView}
use Rattle.host_vars.specs.HostVars.{HasNoResult, variables_of}
use Rattle.host_vars.specs.declared.vars.Vars.{Vars}
use Rattle.play_model.specs.declared.play.Play.{Play}
use Rattle.play_model.specs.declared.step.Step.{Step}
use Rattle.step_lints.specs.Hosts.{WaitingHosts, Foreseen, foreseen_of, value_of}
use Rattle.step_lints.specs.Inside.{foreseen_in, value_in}
use Rattle.lint_rules.specs.Notes.{Note}
use Rattle.lint_command.specs.Playbooks.{play_notes, plays_notes}
use Rattle.step_lints.specs.Steps.{notes_at}
use Rattle.lint_rules.specs.declared.step_path.StepPath.{StepPath}
use Rattle.step_lints.proofs.CrowdLemmas.{foreseen_same, value_same}

pub step_same : (is_set other : Name → Bool) → ((name : Name) → is_set name ≡ other name) → (crowd : WaitingHosts) (foreseen : ℕ → ℕ → Foreseen) (play : Play) (place : ℕ) (at path : StepPath) → at ≡ path → (step : Step)
    → notes_at is_set crowd foreseen play place at step ≡ notes_at other crowd foreseen play place path step
step_same is_set other same crowd foreseen play place at path is step = λ i. notes_at (λ name. same name i) crowd foreseen play place (is i) step

pub play_same : (is_set other : Name → Bool) → ((name : Name) → is_set name ≡ other name) → (fleet : FleetView) (value : Name → ℕ → Option Value) (gives : Name → Bool) (foreseen : ℕ → ℕ → Foreseen) (smallest : Option ℕ) (number : ℕ) (play : Play)
    → play_notes fleet value gives foreseen is_set smallest number play ≡ play_notes fleet value gives foreseen other smallest number play
play_same is_set other same fleet value gives foreseen smallest number play = λ i. play_notes fleet value gives foreseen (λ name. same name i) smallest number play

pub plays_same : (value other : Name → ℕ → Option Value) → ((name : Name) (host : ℕ) → value name host ≡ other name host) → (gives also : Name → Bool)
    → ((name : Name) → gives name ≡ also name) → (foreseen others : ℕ → ℕ → ℕ → Foreseen) → ((number place host : ℕ) → foreseen number place host ≡ others number place host) → (fleet : FleetView) (sizes : List (Option ℕ)) (plays : List Play)
    → plays_notes fleet value gives foreseen sizes plays ≡ plays_notes fleet other also others sizes plays
plays_same value other same gives also given foreseen others alike fleet sizes plays =
    λ i. plays_notes fleet (λ name host. same name host i) (λ name. given name i) (λ number place host. alike number place host i) sizes plays

-- the notes on the fleet, and after them those on plays
pub notes_of_all : (fleet of : FleetView) (sizes : List (Option ℕ)) (plays file : List Play) (vars lent : List Vars) (gives also : Name → Bool) (first before all : List Note) → All HasNoResult vars → lent ≡ vars → of ≡ fleet → file ≡ plays
    → ((name : Name) → gives name ≡ also name) → before ≡ first → all ≡ before ++ plays_notes fleet (value_in lent) gives (foreseen_in of file lent) sizes plays
    → all ≡ first ++ plays_notes fleet (value_of (map variables_of vars)) also (foreseen_of fleet plays (map variables_of vars)) sizes plays
notes_of_all fleet of sizes plays file vars lent gives also first before all bare same fleets files given earlier both =
    both
    ∙ ap (λ (l : List Note). l ++ plays_notes fleet (value_in lent) gives (foreseen_in of file lent) sizes plays) earlier
    ∙ (λ i. first ++ plays_notes fleet (value_in (same i)) gives (foreseen_in (fleets i) (files i) (same i)) sizes plays)
    ∙ ap (λ (l : List Note). first ++ l)
    (plays_same (value_in vars) (value_of (map variables_of vars)) (λ name host. value_same vars name host bare) gives also given (foreseen_in fleet plays vars) (foreseen_of fleet plays (map variables_of vars))
    (λ number place host. foreseen_same fleet plays number place host vars bare) fleet sizes plays)

pub if_ok_same : {T E : Type 0} (result : Result T E) (P Q : T → Type 0) → IfOk result P → ((value : T) → P value → Q value) → IfOk result Q
if_ok_same (Ok value) P Q is so = so value is
if_ok_same (Err refused) P Q is so = tt
