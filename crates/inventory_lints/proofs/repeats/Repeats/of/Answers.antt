use Rattle.std.proofs.Common.{List, ◌++◌, map, ap, ◌∙◌}
use Rattle.duplicate_keys.specs.Repeats.{told_in}
use Rattle.inventory_lints.specs.Inside.{noted_paths}
use Rattle.lint_rules.specs.Notes.{Note, repeated_key}
use Rattle.lint_rules.specs.declared.document.Document.TheVariants.{Inventory, Playbook}
use Rattle.inventory_lints.proofs.RepeatLemmas.{noted_same}
use Rattle.inventory_lints.proofs.repeats.Repeats.of.Goals as goal

pub returns : goal.returns
returns c =
    let inventory = c.in_ok-list_repeated.field-0.items in
    let playbook = c.in_ok-list_if.field-0.items in
    ap (λ (l : List Note). l ++ noted_paths Playbook playbook) (noted_same Inventory inventory ∙ ap (map (repeated_key Inventory)) c.in_ok-list_repeated.ensures)
    ∙ ap (λ (l : List Note). map (repeated_key Inventory) (told_in c.args.texts.inventory.now) ++ l) (noted_same Playbook playbook ∙ ap (map (repeated_key Playbook)) c.in_ok-list_if.ensures)
