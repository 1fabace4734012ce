use Rattle.std.proofs.Common.{◌++◌, Option, ap, ◌∙◌}
use Rattle.step_lints.specs.Arguments.{dash_note}
use Rattle.step_lints.specs.Inside.{crowd_of, foreseen_from}
use Rattle.lint_rules.specs.Notes.{Note, noted}
use Rattle.step_lints.specs.Places.{local_note, target_note}
use Rattle.step_lints.specs.Quoting.{blank_note, quotes_note}
use Rattle.step_lints.specs.ShellWords.{shell_note}
use Rattle.inventory_lints.proofs.NotedLemmas.{two_noted}
use Rattle.step_lints.proofs.steps.warn_words.Goals as goal

pub returns : goal.returns
returns c =
    let crowd = crowd_of c.args.asked.now.crowd in
    let foreseen = foreseen_from c.args.asked.now.stand c.args.asked.now.crowd.lacks.now.vars.now in
    let at = c.args.at in
    let step = c.args.step.now in
    let before = c.args.notes.now in
    let first = c.add.new.self in
    let second = c.add-2.new.self in
    let third = c.add-3.new.self in
    let fourth = c.add-4.new.self in
    let fifth = c.add-5.new.self in
    let all = c.add-6.new.self in
    let shell = noted (shell_note at step) in
    let blank = noted (blank_note at step) in
    let torn = noted (quotes_note at step) in
    let here = noted (local_note crowd foreseen at step) in
    let there = noted (target_note crowd foreseen at step) in
    let dashed = noted (dash_note crowd at step) in
    two_noted before first all shell (blank ++ (torn ++ (here ++ (there ++ dashed)))) (c.in_ok-add.ensures ∙ ap (λ (note : Option Note). before ++ noted note) c.shell_note.ensures)
    (two_noted first second all blank (torn ++ (here ++ (there ++ dashed))) (c.in_ok-add-2.ensures ∙ ap (λ (note : Option Note). first ++ noted note) c.blank_note.ensures)
    (two_noted second third all torn (here ++ (there ++ dashed)) (c.in_ok-add-3.ensures ∙ ap (λ (note : Option Note). second ++ noted note) c.quotes_note.ensures)
    (two_noted third fourth all here (there ++ dashed) (c.in_ok-add-4.ensures ∙ ap (λ (note : Option Note). third ++ noted note) c.in_ok-local_note.ensures)
    (two_noted fourth fifth all there dashed (c.in_ok-add-5.ensures ∙ ap (λ (note : Option Note). fourth ++ noted note) c.in_ok-target_note.ensures)
    (c.in_ok-add-6.ensures ∙ ap (λ (note : Option Note). fifth ++ noted note) c.dash_note.ensures)))))
