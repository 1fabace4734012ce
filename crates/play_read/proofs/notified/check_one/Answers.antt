use Rattle.std.proofs.Common.{◌∷◌, ◌++◌, [], Option, List, map, sym, ap, ◌∙◌, append-nil}
use Rattle.std.specs.Prelude.{filter}
use Rattle.std.specs.List.{cons_option}
use Rattle.std.proofs.lemmas.Result.{on_ok_weaker}
use Rattle.group_tree.specs.Names.{Name}
use Rattle.playbook_schema.specs.Breaches.{Broken, NoSuchHandler}
use Rattle.playbook_schema.specs.Known.{known}
use Rattle.playbook_schema.specs.Names.{once}
use Rattle.playbook_schema.specs.Places.{path_at}
use Rattle.playbook_schema.specs.Steps.{is_missing}
use Rattle.playbook_schema.proofs.AddLaws.{adds_none, adds_same}
use Rattle.play_read.proofs.notified.check_one.Goals as goal

pub returns-in-Some-clause-found : goal.returns-in-Some-clause-found
returns-in-Some-clause-found c =
    let before = known c.args.before.now in
    let missing = is_missing (known c.args.handlers.now) in
    on_ok_weaker c.check_name.result
    (λ found. adds_same (path_at c.args.place) _ _ _ _ found (ap (λ (name : Option Name). map Broken (map NoSuchHandler (once before (filter missing (cons_option name []))))) c.in-Some.ensures))
    c.check_name.ensures.found

pub returns-in-Some-clause-names : goal.returns-in-Some-clause-names
returns-in-Some-clause-names c =
    let before = known c.args.before.now in
    let missing = is_missing (known c.args.handlers.now) in
    on_ok_weaker c.check_name.result
    (λ names. names ∙ ap (λ (name : Option Name). before ++ once before (filter missing (cons_option name []))) c.in-Some.ensures)
    c.check_name.ensures.names

pub returns-in-None-clause-found : goal.returns-in-None-clause-found
returns-in-None-clause-found c =
    let before = known c.args.before.now in
    let missing = is_missing (known c.args.handlers.now) in
    adds_none (path_at c.args.place) _ _ (ap (λ (name : Option Name). map Broken (map NoSuchHandler (once before (filter missing (cons_option name []))))) c.in-None.ensures)

pub returns-in-None-clause-names : goal.returns-in-None-clause-names
returns-in-None-clause-names c =
    let before = known c.args.before.now in
    let missing = is_missing (known c.args.handlers.now) in
    sym (append-nil before) ∙ ap (λ (name : Option Name). before ++ once before (filter missing (cons_option name []))) c.in-None.ensures
