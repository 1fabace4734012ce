use Rattle.std.proofs.Common.{◌++◌, Option, List, ap, ◌∙◌}
use Rattle.group_tree.specs.Names.{Name}
use Rattle.group_tree.specs.Variables.{Variable}
use Rattle.domains.specs.Numbered.{host_at}
use Rattle.domains.specs.Starts.{place_at}
use Rattle.inventory_lints.specs.Groups.{group_notes, limit_note_of, variables_notes}
use Rattle.lint_rules.specs.Notes.{Note, noted}
use Rattle.inventory_lints.proofs.NotedLemmas.{range_noted, two_noted}
use Rattle.inventory_lints.proofs.groups.warn_groups.Goals as goal

pub loop-index-preserved : goal.loop-index-preserved
loop-index-preserved g c =
    let fleet = c.args.fleet.now in
    let index = c.loop-index.index in
    let before = c.loop-index.notes in
    let middle = c.add.new.self in
    let name = host_at fleet.groups index in
    let variables = (place_at c.args.tree.now.places index).variables in
    range_noted (group_notes c.args.tree.now fleet) index c.args.notes.now before c.warn_variables.new.notes c.loop-index.invariant
    (two_noted before middle c.warn_variables.new.notes (noted (limit_note_of fleet index)) (variables_notes name variables)
    (c.in_ok-add.ensures ∙ ap (λ (note : Option Note). before ++ noted note) c.limit_note.ensures)
    (c.in_ok-warn_variables.ensures ∙ ap (λ (l : List Variable). middle ++ variables_notes c.group_name.result.now l) c.variables_at.ensures
    ∙ ap (λ (n : Name). middle ++ variables_notes n variables) c.group_name.ensures))
