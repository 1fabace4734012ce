use Rattle.std.proofs.Common.{◌≡◌, ◌<◌, ◌≤◌, ℕ, List, length, get_or, sym, ap, subst, ◌∙◌, refl, arith}
use Rattle.std.proofs.lemmas.List.{take_all}
use Rattle.std.proofs.lemmas.Result.{err_from_is_err_and}
use Rattle.bounded_io.specs.Writing.{Writes}
use Rattle.host_vars.specs.HostVars.{known_of, variables_of}
use Rattle.play_model.specs.declared.step.Step.{Step}
use Rattle.recap.specs.RecapText.{text_by_place}
use Rattle.command_preview.specs.Holes.{unsure_from}
use Rattle.command_preview.specs.Inside.{WritesFront, told_by}
use Rattle.command_preview.specs.Lines.{Line, fails, line_at, line_text}
use Rattle.command_preview.proofs.Places.{any_given, pieces_of_given}
use Rattle.command_preview.proofs.Telling.{front_here, one_more, told_more}
use Rattle.command_preview.proofs.Waiting.{fresh_without, told_same}
use Rattle.command_preview.proofs.hosts.write_steps.Goals as goal

pub loop-place-preserved : goal.loop-place-preserved
loop-place-preserved g c =
    let stage = c.args.stage.now in
    let steps = stage.play.now.steps.items in
    let unsure = unsure_from stage.holes.now.names stage.before in
    let view = variables_of stage.vars.now in
    let line : ℕ → Step → Line = line_at unsure stage.play.now c.args.host.now view in
    let contents = g.W.Write.contents in
    let given = c.loop-place.text in
    let new = c.write_step.new.text in
    let piece : ℕ → Step → List ℕ = λ place step. line_text (line place step) in
    let i : ℕ = c.loop-place.place in
    let step : Step = c.index-steps-place.result in
    let within : i < length steps = omega (arith, c.loop-place-test.true, ap length c.steps-steps.ensures.value) in
    let is : step ≡ get_or steps i step = c.index-steps-place.is ∙ ap (λ (l : List Step). get_or l i step) c.steps-steps.ensures.value in
    let same = told_same unsure stage.play.now c.args.host.now c.args.host.now view (known_of stage.vars.now) i stage.play.now.tasks step refl (fresh_without stage.vars.now c.requires.bare) refl in
    let here = subst (λ (l : Line). Writes contents given new (line_text l)) same c.in_ok-fails.ensures.0 in
    let now : c.in_ok-fails.field-0 ≡ fails (line i step) = c.in_ok-fails.ensures.1 ∙ ap fails same in
    record {
      written = one_more contents c.args.text.now given new piece steps i step within is c.loop-place.invariant.written here;
      told = told_more (λ place step. fails (line place step)) steps i step c.loop-place.fails c.in_ok-fails.field-0 within is c.loop-place.invariant.told now;
    }

pub returns-in_err-fails : goal.returns-in_err-fails
returns-in_err-fails g c =
    let stage = c.args.stage.now in
    let steps = stage.play.now.steps.items in
    let unsure = unsure_from stage.holes.now.names stage.before in
    let view = variables_of stage.vars.now in
    let line : ℕ → Step → Line = line_at unsure stage.play.now c.args.host.now view in
    let contents = g.W.Write.contents in
    let given = c.loop-place.text in
    let new = c.write_step.new.text in
    let piece : ℕ → Step → List ℕ = λ place step. line_text (line place step) in
    let i : ℕ = c.loop-place.place in
    let step : Step = c.index-steps-place.result in
    let within : i < length steps = omega (arith, c.loop-place-test.true, ap length c.steps-steps.ensures.value) in
    let is : step ≡ get_or steps i step = c.index-steps-place.is ∙ ap (λ (l : List Step). get_or l i step) c.steps-steps.ensures.value in
    let same = told_same unsure stage.play.now c.args.host.now c.args.host.now view (known_of stage.vars.now) i stage.play.now.tasks step refl (fresh_without stage.vars.now c.requires.bare) refl in
    let here = subst (λ (l : Line). WritesFront contents given new (line_text l)) same c.in_err-fails.ensures in
    let front = front_here contents c.args.text.now given new piece steps i step within is c.loop-place.invariant.written here in
    let all = subst (WritesFront contents c.args.text.now new) (sym (pieces_of_given line line_text 0 steps)) front in
    let p = err_from_is_err_and c.from_residual.result c.from_residual.ensures.1 in rw p.1 all

pub returns : goal.returns
returns g c =
    let stage = c.args.stage.now in
    let steps = stage.play.now.steps.items in
    let unsure = unsure_from stage.holes.now.names stage.before in
    let line : ℕ → Step → Line = line_at unsure stage.play.now c.args.host.now (variables_of stage.vars.now) in
    let low : length steps ≤ c.loop-place.place = omega (arith, c.loop-place-test.false, ap length c.steps-steps.ensures.value) in
    let all = take_all c.loop-place.place steps low in (
      subst (λ (l : List ℕ). Writes g.W.Write.contents c.args.text.now c.loop-place.text l)
          (ap (text_by_place (λ place step. line_text (line place step)) 0) all ∙ sym (pieces_of_given line line_text 0 steps)) c.loop-place.invariant.written,
      c.loop-place.invariant.told ∙ ap (told_by (λ place step. fails (line place step)) 0) all ∙ sym (any_given line fails 0 steps),
    )
