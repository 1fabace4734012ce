use Rattle.std.proofs.Common.{◌∷◌, ◌++◌, [], Option, List, map, sym, ap, ◌∙◌, append-nil}
use Rattle.std.specs.List.{cons_option}
use Rattle.std.proofs.lemmas.Result.{on_ok_weaker}
use Rattle.serde_json.specs.View.{view}
use Rattle.group_tree.specs.Names.{Name}
use Rattle.playbook_schema.specs.Breaches.{Broken, where_given}
use Rattle.playbook_schema.specs.Known.{known}
use Rattle.playbook_schema.specs.Names.{once}
use Rattle.playbook_schema.specs.Places.{path_at}
use Rattle.playbook_schema.specs.Steps.{twice}
use Rattle.playbook_schema.proofs.AddLaws.{adds_none, adds_same}
use Rattle.playbook_schema.proofs.NameLaws.{once_alone}
use Rattle.play_read.proofs.handlers.check_name.Goals as goal

pub returns-in-Some-clause-found : goal.returns-in-Some-clause-found
returns-in-Some-clause-found c =
    on_ok_weaker c.add_name.result
    (λ found. adds_same (path_at c.args.place) _ _ _ _ found (ap (λ (name : Option Name). map Broken (where_given (twice (known c.args.names.now)) name)) c.in-Some.ensures))
    c.add_name.ensures.found

pub returns-in-Some-clause-names : goal.returns-in-Some-clause-names
returns-in-Some-clause-names c =
    let met = known c.args.names.now in
    on_ok_weaker c.add_name.result
    (λ names. names ∙ ap (λ (more : List Name). met ++ more) (sym (once_alone met c.in-Some.name.now) ∙ ap (λ (name : Option Name). once met (cons_option name [])) c.in-Some.ensures))
    c.add_name.ensures.names

pub returns-in-None-clause-found : goal.returns-in-None-clause-found
returns-in-None-clause-found c =
    adds_none (path_at c.args.place) _ _ (ap (λ (name : Option Name). map Broken (where_given (twice (known c.args.names.now)) name)) c.in-None.ensures)

pub returns-in-None-clause-names : goal.returns-in-None-clause-names
returns-in-None-clause-names c =
    let met = known c.args.names.now in
    sym (append-nil met) ∙ ap (λ (name : Option Name). met ++ once met (cons_option name [])) c.in-None.ensures
