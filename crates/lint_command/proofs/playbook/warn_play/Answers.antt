use Rattle.std.proofs.Common.{◌≡◌, ◌+◌, ◌++◌, ap, ◌∙◌}
use Rattle.group_tree.specs.Names.{Name}
use Rattle.step_lints.specs.Differing.{named_by}
use Rattle.step_lints.specs.Hosts.{are_several, crowd_for, waiting_for}
use Rattle.step_lints.specs.Inside.{differs_in, foreseen_in, has_missed, has_name, value_in}
use Rattle.step_lints.specs.Lacks.{varies_among}
use Rattle.step_lints.specs.Places.{local_play_note}
use Rattle.step_lints.specs.Programs.{goes_elsewhere}
use Rattle.lint_rules.specs.Notes.{noted}
use Rattle.lint_command.specs.Playbooks.{batch_notes, steps_notes}
use Rattle.inventory_lints.proofs.NotedLemmas.{two_noted}
use Rattle.lint_command.proofs.playbook.warn_play.Goals as goal

pub returns-clause-notes : goal.returns-clause-notes
returns-clause-notes c =
    let scene = c.args.scene in
    let fleet = scene.fleet.now in
    let plays = scene.registry.now in
    let number = c.args.numbered.number in
    let play = c.args.numbered.play.now in
    let is_set = has_name c.args.registered.now in
    let batched = c.warn_batches.new.notes in
    let placed = c.warn_local.new.notes in
    let lacks = c.in_ok-lacks.ensures in
    let waiting : c.in_ok-lacks.lacks.waiting.now ≡ waiting_for fleet play = lacks.waiting ∙ c.as_slice-waiting.ensures.value ∙ c.in_ok-targets.ensures.waiting in
    let elsewhere : c.in_ok-lacks.lacks.elsewhere ≡ goes_elsewhere play.steps.items = lacks.elsewhere ∙ ap goes_elsewhere c.steps-steps.ensures.value in
    let crowd = crowd_for fleet (value_in scene.vars.now) (has_missed scene.given.now) play in
    let differs : (name : Name) → differs_in c.in_ok-lacks.lacks c.in_ok-results.results name ≡ crowd.differs name = λ name.
    c.in_ok-results.ensures name
    ∙ (λ i. named_by (are_several (waiting i)) (λ name. varies_among (value_in (lacks.vars i) name) (waiting i)) (c.steps-steps.ensures.value i) name) in
    let foreseen = foreseen_in plays.fleet.now plays.plays.now scene.vars.now number in
    let local = noted (local_play_note crowd foreseen (number + 1) play) in
    let steps = steps_notes is_set crowd foreseen number play in
    let first : placed ≡ batched ++ local =
    c.in_ok-warn_local.ensures
    ∙ (λ i. batched ++ noted (local_play_note (record { fleet = fleet; value = value_in (lacks.vars i); gives = has_missed (lacks.given i); differs = λ name. differs name i; elsewhere = elsewhere i; waiting = waiting i })
    (foreseen_in plays.fleet.now plays.plays.now (lacks.vars i) number) (number + 1) play)) in
    let then : c.warn_steps.new.notes ≡ placed ++ steps =
    c.in_ok-warn_steps.ensures.notes
    ∙ (λ i. placed ++ steps_notes is_set (record { fleet = fleet; value = value_in (lacks.vars i); gives = has_missed (lacks.given i); differs = λ name. differs name i; elsewhere = elsewhere i; waiting = waiting i })
    (foreseen_in plays.fleet.now plays.plays.now (lacks.vars i) number) number play) in
    two_noted c.args.notes.now batched c.warn_steps.new.notes (batch_notes fleet c.args.smallest (number + 1) play) (local ++ steps) c.in_ok-warn_batches.ensures
    (two_noted batched placed c.warn_steps.new.notes local steps first then)
