use Rattle.std.proofs.Common.{◌≡◌, ◌+◌, [], length, map, take, drop}
use Rattle.std.specs.List.{filter_map}
use Rattle.serde_json.specs.View.{view}
use Rattle.playbook_schema.specs.Checks.{AllKept}
use Rattle.playbook_schema.specs.Known.{known}
use Rattle.playbook_schema.specs.Names.{once}
use Rattle.playbook_schema.specs.Places.{play_path}
use Rattle.playbook_schema.specs.Plays.{checks_of_handlers}
use Rattle.playbook_schema.specs.Steps.{name_in, handler_of}
use Rattle.playbook_schema.proofs.AddLaws.{Leads}
use Rattle.play_read.specs.Reads.{AreSteps}
use Rattle.play_read.proofs.handlers.read_handlers.Given as goal

abbrev pub invariant-loop-index : goal.invariant-loop-index
invariant-loop-index l = record {
  names : known l.names ≡ once [] (filter_map name_in (map view (take l.index l.handlers)));
  found : Leads [] l.initial.faults l.faults (checks_of_handlers (play_path l.play) l.play.told (l.tasks + 1) l.index (known l.names) (map view (drop l.index l.handlers)))
      (checks_of_handlers (play_path l.play) l.play.told (l.tasks + 1) 0 [] (map view l.handlers));
  says : AllKept (checks_of_handlers (play_path l.play) l.play.told (l.tasks + 1) 0 [] (map view l.handlers)) → AreSteps (map handler_of (map view (take l.index l.handlers))) l.steps.items;
  many : length l.steps.items ≡ l.index;
}
