-- The runs that a recap tells of are safe.
use Rattle.std.proofs.Common.{inl, inr}
use Rattle.host_track.specs.Endings.{Ending}
use Rattle.event_log.specs.Told.{Work}
use Rattle.roll_run.proofs.SafeRolls.{broken_runs_are_safe, runs_are_safe}
use Rattle.run_command.specs.Beginnings.{plays_from}
use Rattle.run_command.specs.Laws.{BrokenRecapsAreOfSafeRolls, FaultsFromAreOfSafeRolls, RecapsAreOfSafeRolls, RunsFromAreOfSafeRolls}
use Rattle.run_command.specs.declared.fault.RunTextFault.TheVariants.{Refused, Memory, Broken, Write}

pub recaps_are_of_safe_rolls : (may : Work → Ending → Type 0) → RecapsAreOfSafeRolls may
recaps_are_of_safe_rolls may form inventory playbook text forks runs logs is = record {
  fleet = is.fleet;
  vars = is.are.vars;
  plays = is.plays;
  statuses = is.are.statuses;
  inputs = is.are.inputs;
  rolls = runs_are_safe may is.fleet forks is.plays is.are.statuses is.are.vars runs logs is.are.runs_are;
}

pub broken_recaps_are_of_safe_rolls : (may : Work → Ending → Type 0) → BrokenRecapsAreOfSafeRolls may
broken_recaps_are_of_safe_rolls may form inventory playbook text forks done last logs is = record {
  fleet = is.fleet;
  vars = is.are.vars;
  plays = is.plays;
  statuses = is.are.statuses;
  inputs = is.are.inputs;
  rolls = broken_runs_are_safe may is.fleet forks is.plays is.are.statuses is.are.vars done last logs is.are.broken;
}

pub runs_from_are_of_safe_rolls : (may : Work → Ending → Type 0) → RunsFromAreOfSafeRolls may
runs_from_are_of_safe_rolls may form fleet forks plays beginning old new end logs writes =
    runs_are_safe may fleet forks (plays_from beginning plays) beginning.start.statuses.items beginning.start.vars.items writes.runs logs writes.is.are

pub faults_from_are_of_safe_rolls : (may : Work → Ending → Type 0) → FaultsFromAreOfSafeRolls may
faults_from_are_of_safe_rolls may form fleet forks plays beginning old new (Refused fault) logs is = absurd is
faults_from_are_of_safe_rolls may form fleet forks plays beginning old new Memory logs is = absurd is
faults_from_are_of_safe_rolls may form fleet forks plays beginning old new (Broken why) logs is =
    broken_runs_are_safe may fleet forks (plays_from beginning plays) beginning.start.statuses.items beginning.start.vars.items is.done is.last logs is.is.are
faults_from_are_of_safe_rolls may form fleet forks plays beginning old new (Write fault) logs (inl is) =
    runs_are_safe may fleet forks (plays_from beginning plays) beginning.start.statuses.items beginning.start.vars.items is.runs logs is.is.are
faults_from_are_of_safe_rolls may form fleet forks plays beginning old new (Write fault) logs (inr is) =
    broken_runs_are_safe may fleet forks (plays_from beginning plays) beginning.start.statuses.items beginning.start.vars.items is.done is.last logs is.is.are
