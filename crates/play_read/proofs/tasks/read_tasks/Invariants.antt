use Rattle.std.proofs.Common.{[], map, take, drop}
use Rattle.serde_json.specs.View.{view}
use Rattle.playbook_schema.specs.Checks.{AllKept}
use Rattle.playbook_schema.specs.Known.{known}
use Rattle.playbook_schema.specs.Places.{play_path}
use Rattle.playbook_schema.specs.Plays.{checks_of_tasks}
use Rattle.playbook_schema.specs.Steps.{step_of}
use Rattle.playbook_schema.proofs.AddLaws.{Leads}
use Rattle.play_read.specs.Reads.{AreSteps}
use Rattle.play_read.proofs.tasks.read_tasks.Given as goal

abbrev pub invariant-loop-index : goal.invariant-loop-index
invariant-loop-index l = record {
  found : Leads [] l.initial.faults l.faults (checks_of_tasks (play_path l.play) l.play.told l.index l.handlers.readable (known l.handlers.names) (map view (drop l.index l.tasks)))
      (checks_of_tasks (play_path l.play) l.play.told 0 l.handlers.readable (known l.handlers.names) (map view l.tasks));
  says : AllKept (checks_of_tasks (play_path l.play) l.play.told 0 l.handlers.readable (known l.handlers.names) (map view l.tasks)) → AreSteps (map (step_of (known l.handlers.names)) (map view (take l.index l.tasks))) l.steps.items;
}
