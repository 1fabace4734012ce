-- How a run of a playbook ends.
use Rattle.std.specs.Prelude.{◌≡◌, Bool, true, false, List, [], ◌∷◌, ◌++◌, if◌then◌else◌}
use Rattle.std.specs.List.{list_any}
use Rattle.fleet_states.specs.declared.status.Status.{Status}
use Rattle.fleet_states.specs.declared.status.Status.TheVariants as status
use Rattle.play_forecast.specs.declared.end.End.{End}
use Rattle.play_forecast.specs.declared.end.End.TheVariants as ending
use Rattle.roll_run.specs.declared.run.Run.{Run}
use Rattle.run_command.specs.declared.end.RunEnd.{RunEnd}
use Rattle.run_command.specs.declared.end.RunEnd.TheVariants.{Done, Failed, Blocked, Stopped}

-- the host is down by the run: it has failed, or was at work when it, or one that it goes on with, was stopped
abbrev pub is_failed : Status → Bool
is_failed status.Idle = false
is_failed status.Waiting = false
is_failed status.Running = false
is_failed status.Updated = false
is_failed status.Failed = true
is_failed status.Halted = true
is_failed status.Off = false
is_failed status.Held = false

-- how a playbook ends whose last play ended so, and left these statuses
abbrev pub end_of : End → List Status → RunEnd
end_of ending.Finished statuses = if list_any is_failed statuses then Failed else Done
end_of ending.Held statuses = Blocked
end_of (ending.Blocked group) statuses = Blocked
end_of (ending.TooManyFailed step failed size) statuses = Stopped
end_of ending.AllFailed statuses = Stopped

-- the last of the runs ends so
pub record IsEndOf (runs : List Run) (end : RunEnd) : Type 0 where
  pub before : List Run
  pub last : Run
  pub are : runs ≡ before ++ last ∷ []
  pub ends : end ≡ end_of last.end last.statuses.items
