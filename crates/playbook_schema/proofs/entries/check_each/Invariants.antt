use Rattle.std.proofs.Common.{[], map, drop}
use Rattle.serde_json.specs.View.{view}
use Rattle.playbook_schema.specs.Breaches.{Broken}
use Rattle.playbook_schema.specs.Entries.{bad_from}
use Rattle.playbook_schema.specs.Paths.{under}
use Rattle.playbook_schema.specs.Places.{path_at}
use Rattle.playbook_schema.specs.Tests.{breach_for, passes}
use Rattle.playbook_schema.proofs.AddLaws.{Leads}
use Rattle.playbook_schema.proofs.entries.check_each.Given as goal

abbrev pub invariant-loop-index : goal.invariant-loop-index
invariant-loop-index l =
    Leads (path_at l.place) l.initial.faults l.faults (map Broken (bad_from (breach_for l.test) (passes l.test) (under [] l.key) l.index (map view (drop l.index l.entries))))
    (map Broken (bad_from (breach_for l.test) (passes l.test) (under [] l.key) 0 (map view l.entries)))
