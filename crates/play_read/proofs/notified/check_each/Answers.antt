use Rattle.std.proofs.Common.{◌≡◌, ◌+◌, ◌++◌, ◌∷◌, [], List, drop, sym, ap, ◌∙◌, subst}
use Rattle.std.specs.List.{filter_map}
use Rattle.std.proofs.lemmas.List.{drop_all}
use Rattle.serde_json.specs.Find.{as_str}
use Rattle.serde_json.specs.View.{view}
use Rattle.serde_json.specs.declared.value.Value.{Value}
use Rattle.group_tree.specs.Names.{Name}
use Rattle.playbook_schema.specs.Known.{known, texts}
use Rattle.playbook_schema.specs.Places.{path_at}
use Rattle.playbook_schema.proofs.AddLaws.{Leads, leads_end, leads_on, leads_start}
use Rattle.play_read.proofs.Missing.{missing_behind, missing_on}
use Rattle.play_read.proofs.notified.check_each.Goals as goal

pub loop-name-init : goal.loop-name-init
loop-name-init c =
    let at = path_at c.args.place in
    let all = missing_behind (known c.args.handlers.now) [] (texts c.args.names.now) in
    let now = c.args.faults.now in
    subst (λ (before : List Name). Leads at now now (missing_behind (known c.args.handlers.now) before (texts c.args.names.now)) all) (sym c.new-before.ensures) (leads_start at now all)

pub loop-name-preserved : goal.loop-name-preserved
loop-name-preserved c =
    let l = c.loop-name in
    let handlers = known c.args.handlers.now in
    let item = c.name-item.result in
    let later = texts (drop (l.name-index + 1) c.args.names.now) in
    let split = missing_on handlers (known l.before) c.args.names.now l.name-index item c.loop-name-test.true c.name-item.is in
    leads_on (path_at c.args.place) _ _ _ _ l.invariant c.check_one.new.faults (missing_behind handlers (known l.before) (filter_map as_str (view item ∷ []))) (missing_behind handlers (known c.check_one.new.before) later)
    (split ∙ ap (λ (before : List Name). missing_behind handlers (known l.before) (filter_map as_str (view item ∷ [])) ++ missing_behind handlers before later) (sym c.in_ok-check_one.ensures.names))
    c.in_ok-check_one.ensures.found

pub returns : goal.returns
returns c =
    let l = c.loop-name in
    leads_end (path_at c.args.place) _ _ _ _ l.invariant
    (ap (λ (list : List Value). missing_behind (known c.args.handlers.now) (known l.before) (texts list)) (drop_all l.name-index c.args.names.now c.loop-name-test.false))
