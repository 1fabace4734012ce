-- The parts of a play, as they are read.
use Rattle.std.specs.Prelude.{◌≡◌, map, string_bytes}
use Rattle.serde_json.specs.Data.{Data}
use Rattle.serde_json.specs.Find.{get}
use Rattle.playbook_schema.specs.Keys.{hosts_key, serial_key, max_fail_key, on_blocked_key}
use Rattle.playbook_schema.specs.Plays.{handler_names, handlers_in, tasks_in}
use Rattle.playbook_schema.specs.Settings.{mode_in, pattern_in, percent_in, sizes_in}
use Rattle.playbook_schema.specs.Steps.{handler_of, step_of}
use Rattle.play_read.specs.Reads.{AreSteps}
use Rattle.play_read.specs.declared.play.Settings.{Settings}
use Rattle.play_read.specs.declared.play.Steps.{Steps}

pub record IsSettings (play : Data) (settings : Settings) : Type 0 where
  pub pattern : string_bytes settings.pattern ≡ pattern_in (get hosts_key play)
  pub sizes : settings.sizes.items ≡ sizes_in (get serial_key play)
  pub max_fail : settings.max_fail ≡ percent_in (get max_fail_key play)
  pub on_blocked : settings.on_blocked ≡ mode_in (get on_blocked_key play)

pub record AreStepsOf (play : Data) (steps : Steps) : Type 0 where
  pub tasks : AreSteps (map (step_of (handler_names play)) (tasks_in play)) steps.tasks.items
  pub handlers : AreSteps (map handler_of (handlers_in play)) steps.handlers.items
