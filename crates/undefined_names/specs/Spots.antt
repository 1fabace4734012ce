-- What may have run before a step of a file's plays, what the step misses then, and whether it is skipped.
use Rattle.std.specs.Prelude.{ℕ, Bool, false, Option, Some, None, List, [], ◌++◌, flat_map, filter, slice_get, take}
use Rattle.domains.specs.FleetViews.{FleetView}
use Rattle.fleet_states.specs.Starts.{start_statuses}
use Rattle.fleet_states.specs.Statuses.{is_waiting, status_at}
use Rattle.group_tree.specs.Names.{Name}
use Rattle.host_track.specs.Hosts.{Known}
use Rattle.result_dependencies.specs.Needs.{tasks_before}
use Rattle.play_forecast.specs.PlayPlans.{targets}
use Rattle.play_model.specs.declared.play.Play.{Play}
use Rattle.play_model.specs.declared.step.Step.{Step}
use Rattle.undefined_names.specs.UndefinedReads.{is_some_skipped, missed_by_some, outset_of}
use Rattle.undefined_names.specs.InitialEnv.{InitialEnv}
use Rattle.undefined_names.specs.EarlierSteps.{EarlierSteps, steps_of}

-- the play is for the host, which isn't down at the start
abbrev pub waits_for : FleetView → ℕ → Play → Bool
waits_for fleet host play = is_waiting (status_at (start_statuses fleet (targets fleet play)) host)

abbrev pub tasks_of : Play → List Step
tasks_of play = take play.tasks play.steps.items

-- the plays before the one with this number that wait for the host
abbrev pub earlier : FleetView → List Play → ℕ → ℕ → List Play
earlier fleet plays number host = filter (waits_for fleet host) (take number plays)

-- Before the step at a place of a play. A play begins where all before it have finished: a host that comes to it has run the tasks of those that were for it, and perhaps
-- handlers of theirs. A due task registers its result also where it is skipped; a handler may not be due.
abbrev pub past_of : FleetView → List Play → ℕ → Play → ℕ → ℕ → EarlierSteps
past_of fleet plays number play place host = record {
  sure = flat_map tasks_of (earlier fleet plays number host) ++ tasks_before play place;
  may = steps_of (earlier fleet plays number host) ++ take place play.steps.items;
}

-- what is said of a step behind that, where there is such a play
abbrev pub said_in_play : {X : Type 0} → (InitialEnv → Option Step → X) → X → FleetView → List Play → ℕ → ℕ → ℕ → Known → Option Play → X
said_in_play say none fleet plays number place host known None = none
said_in_play say none fleet plays number place host known (Some play) =
    say (outset_of (past_of fleet plays number play place host) known) (slice_get play.steps.items place)

abbrev pub missed_in_play : FleetView → List Play → ℕ → ℕ → ℕ → Known → Option Play → List Name
missed_in_play = said_in_play missed_by_some []

-- of the step at this place of the play with this number, both from 0, on a host of which this is known; none where there is no such step
abbrev pub missed_at : FleetView → List Play → ℕ → ℕ → ℕ → Known → List Name
missed_at fleet plays number place host known =
    missed_in_play fleet plays number place host known (slice_get plays number)

-- whether it is known that the step there doesn't run; not where there is none
abbrev pub skipped_in_play : FleetView → List Play → ℕ → ℕ → ℕ → Known → Option Play → Bool
skipped_in_play = said_in_play is_some_skipped false

abbrev pub skipped_at : FleetView → List Play → ℕ → ℕ → ℕ → Known → Bool
skipped_at fleet plays number place host known =
    skipped_in_play fleet plays number place host known (slice_get plays number)
