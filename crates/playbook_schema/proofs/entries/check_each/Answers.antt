use Rattle.std.proofs.Common.{[], List, ap, map, drop}
use Rattle.std.proofs.lemmas.List.{drop_all}
use Rattle.serde_json.specs.View.{view}
use Rattle.serde_json.specs.declared.value.Value.{Value}
use Rattle.playbook_schema.specs.Breaches.{Broken}
use Rattle.playbook_schema.specs.Entries.{bad_from}
use Rattle.playbook_schema.specs.Paths.{under}
use Rattle.playbook_schema.specs.Places.{path_at}
use Rattle.playbook_schema.specs.Tests.{breach_for, passes}
use Rattle.playbook_schema.proofs.AddLaws.{leads_end, leads_on, leads_start}
use Rattle.playbook_schema.proofs.EntryLaws.{entry_left}
use Rattle.playbook_schema.proofs.entries.check_each.Goals as goal

pub loop-index-init : goal.loop-index-init
loop-index-init c = leads_start (path_at c.args.place) c.args.faults.now _

pub loop-index-preserved : goal.loop-index-preserved
loop-index-preserved c =
    let at = under [] c.args.key.now in
    leads_on (path_at c.args.place) _ _ _ _ c.loop-index.invariant c.check_entry.new.faults _ _
    (entry_left (breach_for c.args.test) (passes c.args.test) at c.args.entries.now c.loop-index.index c.index-entries-index.result c.loop-index-test.true c.index-entries-index.is)
    c.in_ok-check_entry.ensures

pub returns : goal.returns
returns c =
    let l = c.loop-index in
    leads_end (path_at c.args.place) _ _ _ _ l.invariant
    (ap (λ (list : List Value). map Broken (bad_from (breach_for c.args.test) (passes c.args.test) (under [] c.args.key.now) l.index (map view list))) (drop_all l.index c.args.entries.now c.loop-index-test.false))
