use Rattle.std.proofs.Common.{List, ◌++◌, ap, ◌∙◌}
use Rattle.inventory_lints.specs.Fleet.{fleet_notes}
use Rattle.lint_command.specs.LintTexts.{AreFleetNotesIn}
use Rattle.lint_rules.specs.Notes.{Note, isnt_allowed}
use Rattle.inventory_lints.specs.Repeats.{repeats_given}
use Rattle.lint_command.proofs.LintLemmas.{breaks_notes, writes_notes}
use Rattle.lint_command.proofs.lint.lint_fleet_text.Goals as goal

pub returns-in-Ok-send_notes-clause-ok : goal.returns-in-Ok-send_notes-clause-ok
returns-in-Ok-send_notes-clause-ok g c =
    let notes = c.in-Ok-list_fleet_notes.notes in
    let are : AreFleetNotesIn (repeats_given c.args.given) c.args.inventory.now notes = record {
      says = c.in-Ok.tree;
      fleet = c.in-Ok-build.fleet;
      reads = c.in-Ok.ensures.ok;
      built = c.in-Ok-build.ensures.ok;
      notes_are = c.in-Ok-list_fleet_notes.ensures ∙ ap (λ (first : List Note). first ++ fleet_notes c.in-Ok.tree c.in-Ok-build.fleet) c.in-Ok-of.ensures;
    } in
    writes_notes (AreFleetNotesIn (repeats_given c.args.given) c.args.inventory.now) (isnt_allowed c.args.allowed.now) notes _ _ c.in-Ok-send_notes.end are c.in-Ok-send_notes.ensures.text c.in-Ok-send_notes.ensures.end

pub returns-clause-err : goal.returns-clause-err
returns-clause-err g c =
    let notes = c.in-Ok-list_fleet_notes.notes in
    let are : AreFleetNotesIn (repeats_given c.args.given) c.args.inventory.now notes = record {
      says = c.in-Ok.tree;
      fleet = c.in-Ok-build.fleet;
      reads = c.in-Ok.ensures.ok;
      built = c.in-Ok-build.ensures.ok;
      notes_are = c.in-Ok-list_fleet_notes.ensures ∙ ap (λ (first : List Note). first ++ fleet_notes c.in-Ok.tree c.in-Ok-build.fleet) c.in-Ok-of.ensures;
    } in
    breaks_notes (AreFleetNotesIn (repeats_given c.args.given) c.args.inventory.now) (isnt_allowed c.args.allowed.now) notes _ _ c.in-Err-send_notes.fault are c.in-Err-send_notes.ensures.text
