use Rattle.std.proofs.Common.{length, ap, ◌∙◌}
use Rattle.text_syntax.specs.Shapes.{entries}
use Rattle.text_syntax.proofs.ListLaws.{entries_counted}
use Rattle.playbook_schema.proofs.command_place.count_entries.Goals as goal

pub returns-in-Some : goal.returns-in-Some
returns-in-Some c =
    c.len.ensures.len ∙ entries_counted c.in-Some.object.now.entries ∙ ap (λ members. length (entries members)) c.in-Some.ensures.entries
