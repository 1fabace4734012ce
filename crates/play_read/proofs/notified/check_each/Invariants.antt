use Rattle.std.proofs.Common.{[], drop}
use Rattle.playbook_schema.specs.Known.{known, texts}
use Rattle.playbook_schema.specs.Places.{path_at}
use Rattle.playbook_schema.proofs.AddLaws.{Leads}
use Rattle.play_read.proofs.Missing.{missing_behind}
use Rattle.play_read.proofs.notified.check_each.Given as goal

abbrev pub invariant-loop-name : goal.invariant-loop-name
invariant-loop-name l =
    Leads (path_at l.place) l.initial.faults l.faults (missing_behind (known l.handlers) (known l.before) (texts (drop l.name-index l.names)))
    (missing_behind (known l.handlers) [] (texts l.names))
