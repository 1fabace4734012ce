use Rattle.std.proofs.Common.{◌++◌, Option, ap, ◌∙◌}
use Rattle.inventory_lints.specs.HostKeys.{own_note, own_value_note}
use Rattle.lint_rules.specs.Notes.{Note, noted}
use Rattle.inventory_lints.proofs.NotedLemmas.{two_noted}
use Rattle.inventory_lints.proofs.host_keys.warn_own_variable.Goals as goal

pub returns : goal.returns
returns g c =
    let before = c.args.notes.now in
    let middle = c.add.new.self in
    let group = c.args.group.now in
    let host = c.args.host.now in
    let variable = c.args.variable.now in
    two_noted before middle c.add-2.new.self (noted (own_note group host variable)) (noted (own_value_note group host variable))
    (c.in_ok-add.ensures ∙ ap (λ (note : Option Note). before ++ noted note) c.own_note.ensures)
    (c.in_ok-add-2.ensures ∙ ap (λ (note : Option Note). middle ++ noted note) c.own_value_note.ensures)
