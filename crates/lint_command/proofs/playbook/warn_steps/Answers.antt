use Rattle.std.proofs.Common.{◌≡◌, ℕ, ◌||◌, ◌++◌, List, ap, ◌∙◌, take}
use Rattle.group_tree.specs.Names.{Name}
use Rattle.play_model.specs.declared.step.Step.{Step}
use Rattle.result_dependencies.specs.Registers.{is_registered_by, registers}
use Rattle.step_lints.specs.Hosts.{Foreseen}
use Rattle.step_lints.specs.Inside.{crowd_of, foreseen_in, has_name}
use Rattle.lint_rules.specs.Notes.{Note}
use Rattle.lint_command.specs.Playbooks.{is_set_at, step_notes}
use Rattle.step_lints.proofs.AnyLemmas.{any_more, set_more}
use Rattle.lint_command.proofs.EachLemmas.{noted_more}
use Rattle.lint_command.proofs.SameLemmas.{step_same}
use Rattle.lint_command.proofs.playbook.warn_steps.Goals as goal

pub loop-place-preserved : goal.loop-place-preserved
loop-place-preserved c =
    let first = has_name c.args.registered.now in
    let crowd = crowd_of c.args.crowd.now in
    let play = c.args.numbered.play.now in
    let number = c.args.numbered.number in
    let foreseen : ℕ → ℕ → Foreseen = foreseen_in c.args.registry.now.fleet.now c.args.registry.now.plays.now c.args.crowd.now.lacks.now.vars.now number in
    let steps : List Step = c.steps-steps.result.now in
    let place = c.loop-place.place in
    let step : Step = c.index-steps-place.result in
    let before = c.loop-place.registered in
    let same : (name : Name) → has_name before name ≡ is_set_at first play place name = λ name.
    c.loop-place.invariant.registered name ∙ ap (λ (l : List Step). first name || is_registered_by (take place l) name) c.steps-steps.ensures.value in
    let now : c.warn_step.new.notes ≡ c.loop-place.notes ++ step_notes first crowd foreseen number play place step =
    c.in_ok-warn_step.ensures
    ∙ ap (λ (l : List Note). c.loop-place.notes ++ l) (step_same (has_name before) (is_set_at first play place) same crowd foreseen play place c.of-at.result _ c.of-at.ensures step) in
    record {
      notes = noted_more (step_notes first crowd foreseen number play) steps place step c.loop-place.notes c.warn_step.new.notes _
          c.loop-place-test.true c.index-steps-place.is c.loop-place.invariant.notes now;
      registered = λ name. set_more (has_name c.add.new.self name) (has_name before name) (first name) (is_registered_by (take place steps) name) (registers name step) _
          (c.in_ok-add.ensures name) (c.loop-place.invariant.registered name) (any_more (registers name) steps place step c.loop-place-test.true c.index-steps-place.is);
    }
