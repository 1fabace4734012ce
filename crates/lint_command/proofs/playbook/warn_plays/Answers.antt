use Rattle.std.proofs.Common.{◌≡◌, ℕ, ◌||◌, ◌++◌, [], None, List, append-nil, arith, sym, ap, ◌∙◌, drop, take}
use Rattle.std.proofs.lemmas.List.{drop_all}
use Rattle.std.specs.Prelude.{slice_index_or}
use Rattle.play_model.specs.declared.play.Play.{Play}
use Rattle.result_dependencies.specs.Registers.{is_registered_by, is_registered_in}
use Rattle.step_lints.specs.Hosts.{Foreseen}
use Rattle.step_lints.specs.Inside.{foreseen_in, has_missed, has_name, value_in}
use Rattle.lint_rules.specs.Notes.{Note}
use Rattle.lint_command.specs.Playbooks.{all_noted, play_notes}
use Rattle.step_lints.proofs.AnyLemmas.{any_more}
use Rattle.lint_command.proofs.EachLemmas.{noted_more}
use Rattle.lint_command.proofs.SameLemmas.{play_same}
use Rattle.lint_command.proofs.playbook.warn_plays.Goals as goal

pub loop-number-preserved : goal.loop-number-preserved
loop-number-preserved c =
    let scene = c.args.scene in
    let fleet = scene.fleet.now in
    let lacks = value_in scene.vars.now in
    let given = has_missed scene.given.now in
    let foreseen : ℕ → ℕ → ℕ → Foreseen = foreseen_in scene.registry.now.fleet.now scene.registry.now.plays.now scene.vars.now in
    let plays : List Play = c.args.plays.now in
    let number = c.loop-number.number in
    let play : Play = c.index-plays-number.result in
    let sizes = c.args.sizes.now in
    let smallest = slice_index_or sizes number None in
    let before = c.loop-number.registered in
    let earlier = is_registered_in (take number plays) in
    let now : c.warn_play.new.notes ≡ c.loop-number.notes ++ play_notes fleet lacks given (foreseen number) earlier smallest number play =
    c.in_ok-warn_play.ensures.notes
    ∙ ap (λ (l : List Note). c.loop-number.notes ++ l) (play_same (has_name before) earlier c.loop-number.invariant.registered fleet lacks given (foreseen number) smallest number play) in
    record {
      notes = noted_more (λ number play. play_notes fleet lacks given (foreseen number) (is_registered_in (take number plays)) (slice_index_or sizes number None) number play) plays number play c.loop-number.notes c.warn_play.new.notes _
          c.loop-number-test.true c.index-plays-number.is c.loop-number.invariant.notes now;
      registered = λ name. c.in_ok-warn_play.ensures.registered name
          ∙ ap (λ b. b || is_registered_by play.steps.items name) (c.loop-number.invariant.registered name)
          ∙ sym (any_more (λ (play : Play). is_registered_by play.steps.items name) plays number play c.loop-number-test.true c.index-plays-number.is);
    }

pub returns : goal.returns
returns c =
    let scene = c.args.scene in
    let fleet = scene.fleet.now in
    let foreseen : ℕ → ℕ → ℕ → Foreseen = foreseen_in scene.registry.now.fleet.now scene.registry.now.plays.now scene.vars.now in
    let plays : List Play = c.args.plays.now in
    let end = c.loop-number.number in
    let notes = c.loop-number.notes in
    let of : ℕ → Play → List Note = λ number play.
    play_notes fleet (value_in scene.vars.now) (has_missed scene.given.now) (foreseen number) (is_registered_in (take number plays)) (slice_index_or c.args.sizes.now number None) number play in
    let none : drop end plays ≡ [] = drop_all end plays (omega (arith, c.loop-number-test.false)) in
    sym (append-nil notes) ∙ ap (λ (left : List Play). notes ++ all_noted of end left) (sym none) ∙ c.loop-number.invariant.notes
