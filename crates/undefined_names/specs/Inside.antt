-- What is kept of plays and of hosts.
use Rattle.std.specs.Prelude.{◌≡◌, ℕ, Bool, false, ◌&&◌, Option, Some, None, List, [], ◌++◌, filter, flat_map, length, map, slice_get, take}
use Rattle.domains.specs.FleetViews.{FleetView}
use Rattle.group_tree.specs.Names.{Name}
use Rattle.host_track.specs.Hosts.{Known}
use Rattle.host_vars.specs.HostVars.{known_of}
use Rattle.result_dependencies.specs.Needs.{tasks_before}
use Rattle.play_model.specs.declared.play.Play.{Play}
use Rattle.play_model.specs.declared.step.Step.{Step}
use Rattle.undefined_names.specs.UndefinedReads.{is_some_skipped, missed_by_some, outset_of}
use Rattle.undefined_names.specs.InitialEnv.{InitialEnv}
use Rattle.undefined_names.specs.EarlierSteps.{EarlierSteps, is_registered, steps_of}
use Rattle.undefined_names.specs.Spots.{tasks_of, waits_for}
use Rattle.undefined_names.specs.declared.play_facts.PlayFacts.{PlayFacts}
use Rattle.undefined_names.specs.declared.before.Before.{Before}
use Rattle.undefined_names.specs.declared.earlier_steps.EarlierSteps as code

-- the play waits for the host, and a task of it registers the name; or any step of it does
abbrev pub has_run_task : ℕ → Name → PlayFacts → Bool
has_run_task host name act =
    waits_for act.fleet.now host act.play.now && is_registered (tasks_of act.play.now) name

abbrev pub may_have_run : ℕ → Name → PlayFacts → Bool
may_have_run host name act =
    waits_for act.fleet.now host act.play.now && is_registered (take (length act.play.now.steps.items) act.play.now.steps.items) name

-- the plays that wait for the host
abbrev pub plays_for : ℕ → List PlayFacts → List Play
plays_for host acts =
    map (λ (act : PlayFacts). act.play.now) (filter (λ (act : PlayFacts). waits_for act.fleet.now host act.play.now) acts)

-- before the step at a place of a play, which stands behind these
abbrev pub past_behind : List PlayFacts → Play → ℕ → ℕ → EarlierSteps
past_behind acts play place host = record {
  sure = flat_map tasks_of (plays_for host acts) ++ tasks_before play place;
  may = steps_of (plays_for host acts) ++ take place play.steps.items;
}

abbrev pub past_seen : code.EarlierSteps → EarlierSteps
past_seen past = past_behind past.earlier.now past.act.now.play.now past.place past.host.index

abbrev pub outset_before : Before → InitialEnv
outset_before before = outset_of (past_seen before.past) (known_of before.vars.now)

-- a play for the hosts of a fleet
pub record Staged : Type 0 where
  pub fleet : FleetView
  pub play : Play

abbrev pub staged : FleetView → Play → Staged
staged fleet play = record { fleet = fleet; play = play }

abbrev pub stage_of : PlayFacts → Staged
stage_of act = staged act.fleet.now act.play.now

abbrev pub AreActsOf : FleetView → List Play → List PlayFacts → Type 0
AreActsOf fleet plays acts = map stage_of acts ≡ map (staged fleet) plays

-- what is said of the step at a place of the play with this number, where there is such a play
abbrev pub said_in_act : {X : Type 0} → (InitialEnv → Option Step → X) → X → List PlayFacts → ℕ → ℕ → ℕ → Known → Option PlayFacts → X
said_in_act say none acts number place host known None = none
said_in_act say none acts number place host known (Some act) =
    say (outset_of (past_behind (take number acts) act.play.now place host) known) (slice_get act.play.now.steps.items place)

abbrev pub missed_in_act : List PlayFacts → ℕ → ℕ → ℕ → Known → Option PlayFacts → List Name
missed_in_act = said_in_act missed_by_some []

abbrev pub skipped_in_act : List PlayFacts → ℕ → ℕ → ℕ → Known → Option PlayFacts → Bool
skipped_in_act = said_in_act is_some_skipped false
