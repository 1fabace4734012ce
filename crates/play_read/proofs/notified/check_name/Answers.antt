use Rattle.std.proofs.Common.{◌≡◌, ◌∷◌, ◌++◌, [], Bool, List, true, not, map, sym, ap, ◌∙◌, append-nil}
use Rattle.std.specs.Prelude.{filter, if◌then◌else◌}
use Rattle.group_tree.specs.Names.{Name, is_among}
use Rattle.playbook_schema.specs.Breaches.{Breach, Broken, NoSuchHandler, unless}
use Rattle.playbook_schema.specs.Known.{known}
use Rattle.playbook_schema.specs.Names.{once, once_more}
use Rattle.playbook_schema.specs.Places.{path_at}
use Rattle.playbook_schema.specs.Steps.{is_missing}
use Rattle.playbook_schema.proofs.AddLaws.{adds_none, adds_same}
use Rattle.play_read.proofs.Missing.{told_new, with_handler, without_handler}
use Rattle.play_read.proofs.notified.check_name.Goals as goal

pub returns-then-has-clause-found : goal.returns-then-has-clause-found
returns-then-has-clause-found c =
    adds_none (path_at c.args.place) _ _
    (ap (λ (names : List Name). map Broken (map NoSuchHandler names)) (sym (with_handler (known c.args.handlers.now) (known c.args.before.now) c.args.name.now (sym c.has.ensures ∙ c.if-has.true))))

pub returns-then-has-clause-names : goal.returns-then-has-clause-names
returns-then-has-clause-names c =
    let before = known c.args.before.now in
    sym (append-nil before) ∙ ap (λ (names : List Name). before ++ names) (sym (with_handler (known c.args.handlers.now) before c.args.name.now (sym c.has.ensures ∙ c.if-has.true)))

pub returns-clause-found : goal.returns-clause-found
returns-clause-found c =
    let before = known c.args.before.now in
    adds_same (path_at c.args.place) _ _ _ _ c.in_ok-check.ensures
    (told_new before c.args.name.now c.in_ok-is_new.is_new c.in_ok-is_new.ensures.new
    ∙ ap (λ (names : List Name). map Broken (map NoSuchHandler names)) (sym (without_handler (known c.args.handlers.now) before c.args.name.now (sym c.has.ensures ∙ c.if-has.false))))

pub returns-clause-names : goal.returns-clause-names
returns-clause-names c =
    let before = known c.args.before.now in
    c.in_ok-is_new.ensures.names ∙ ap (λ (names : List Name). before ++ names) (sym (without_handler (known c.args.handlers.now) before c.args.name.now (sym c.has.ensures ∙ c.if-has.false)))
