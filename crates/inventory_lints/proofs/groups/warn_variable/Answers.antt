use Rattle.std.proofs.Common.{◌++◌, Option, ap, ◌∙◌}
use Rattle.inventory_lints.specs.Groups.{value_note, variable_note}
use Rattle.lint_rules.specs.Notes.{Note, noted}
use Rattle.inventory_lints.proofs.NotedLemmas.{two_noted}
use Rattle.inventory_lints.proofs.groups.warn_variable.Goals as goal

pub returns : goal.returns
returns g c =
    let before = c.args.notes.now in
    let middle = c.add.new.self in
    let group = c.args.group.now in
    let variable = c.args.variable.now in
    two_noted before middle c.add-2.new.self (noted (variable_note group variable)) (noted (value_note group variable))
    (c.in_ok-add.ensures ∙ ap (λ (note : Option Note). before ++ noted note) c.variable_note.ensures)
    (c.in_ok-add-2.ensures ∙ ap (λ (note : Option Note). middle ++ noted note) c.value_note.ensures)
