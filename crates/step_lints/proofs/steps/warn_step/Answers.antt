use Rattle.std.proofs.Common.{◌≡◌, ◌++◌, List, Option, ap, ◌∙◌}
use Rattle.result_dependencies.specs.Needs.{tasks_before}
use Rattle.play_model.specs.declared.step.Step.{Step}
use Rattle.step_lints.specs.Doubts.{changed_note, conditions_notes}
use Rattle.step_lints.specs.Inside.{crowd_of, foreseen_from, has_name}
use Rattle.lint_rules.specs.Notes.{Note, noted}
use Rattle.step_lints.specs.Steps.{idle_note, idle_step_note, name_notes, result_notes, words_notes}
use Rattle.inventory_lints.proofs.NotedLemmas.{two_noted}
use Rattle.step_lints.proofs.steps.warn_step.Goals as goal

pub returns : goal.returns
returns c =
    let is_set = has_name c.args.asked.now.registered.now in
    let crowd = crowd_of c.args.asked.now.crowd in
    let stand = c.args.asked.now.stand in
    let foreseen = foreseen_from stand c.args.asked.now.crowd.lacks.now.vars.now in
    let play = c.args.play.now in
    let at = c.args.at in
    let step = c.args.step.now in
    let before = c.args.notes.now in
    let named = c.warn_asked.new.notes in
    let wanted = c.warn_results.new.notes in
    let asked = c.warn_conditions.new.notes in
    let run = c.add.new.self in
    let guarded = c.add-2.new.self in
    let worded = c.warn_words.new.notes in
    let all = c.add-3.new.self in
    let names = name_notes is_set crowd foreseen at step in
    let results = result_notes is_set crowd foreseen (tasks_before play stand.place) at step in
    let conditions = conditions_notes crowd.fleet (tasks_before play stand.place) at step in
    let skipped = noted (idle_step_note crowd foreseen at step) in
    let changed = noted (changed_note crowd.fleet at step) in
    let words = words_notes crowd foreseen at step in
    let idle = noted (idle_note play at) in
    let judged : asked ≡ wanted ++ conditions = c.in_ok-warn_conditions.ensures ∙ ap (λ (tasks : List Step). wanted ++ conditions_notes crowd.fleet tasks at step) c.tasks_above.ensures in
    let of_run : run ≡ asked ++ skipped = c.in_ok-add.ensures ∙ ap (λ (note : Option Note). asked ++ noted note) c.in_ok-idle_step_note.ensures in
    let of_change : guarded ≡ run ++ changed = c.in_ok-add-2.ensures ∙ ap (λ (note : Option Note). run ++ noted note) c.in_ok-changed_note.ensures in
    let of_handler : all ≡ worded ++ idle = c.in_ok-add-3.ensures ∙ ap (λ (note : Option Note). worded ++ noted note) c.idle_note.ensures in
    two_noted before named all names (results ++ (conditions ++ (skipped ++ (changed ++ (words ++ idle))))) c.in_ok-warn_asked.ensures
    (two_noted named wanted all results (conditions ++ (skipped ++ (changed ++ (words ++ idle)))) c.in_ok-warn_results.ensures
    (two_noted wanted asked all conditions (skipped ++ (changed ++ (words ++ idle))) judged
    (two_noted asked run all skipped (changed ++ (words ++ idle)) of_run
    (two_noted run guarded all changed (words ++ idle) of_change (two_noted guarded worded all words idle c.in_ok-warn_words.ensures of_handler)))))
