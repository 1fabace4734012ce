use Rattle.std.proofs.Common.{◌≡◌, ◌++◌, ◌+◌, ℕ, Bool, List, [], length, nat_lt, take, sym, ap, subst, ◌∙◌, refl, arith, append-nil}
use Rattle.std.proofs.lemmas.List.{take_all}
use Rattle.std.proofs.lemmas.Result.{err_from_is_err_and}
use Rattle.std.specs.List.{list_any}
use Rattle.bounded_io.specs.Writing.{Writes}
use Rattle.bounded_io.proofs.WritingLemmas.{writes_two}
use Rattle.play_model.specs.declared.play.Play.{Play}
use Rattle.recap.specs.RecapText.{text_by_place}
use Rattle.command_preview.specs.Inside.{WritesFront, told_by, views_of}
use Rattle.command_preview.specs.Lines.{Line, fails, head_text, lines_of_play, lines_text, unsure_in}
use Rattle.command_preview.specs.Unsure.{steps_of}
use Rattle.command_preview.proofs.Places.{any_given, texts_of_given}
use Rattle.command_preview.proofs.PlayLines.{behind_more, same_lines}
use Rattle.command_preview.proofs.Telling.{front_behind, front_here, one_more, told_more}
use Rattle.command_preview.proofs.plays.write_plays.Goals as goal

pub loop-place-preserved : goal.loop-place-preserved
loop-place-preserved g c =
    let scene = c.args.scene.now in
    let plays = c.args.plays.now in
    let views = views_of scene.vars.now in
    let several : Bool = nat_lt 1 (length plays) in
    let lines : ℕ → Play → List Line = λ place play. lines_of_play scene.fleet.now views (unsure_in (steps_of (take place plays)) play) play in
    let piece : ℕ → Play → List ℕ = λ place play. head_text several (place + 1) ++ lines_text (lines place play) in
    let contents = g.W.Write.contents in
    let given = c.loop-place.text in
    let headed = c.write_head.new.text in
    let new = c.write_play.new.text in
    let i : ℕ = c.loop-place.place in
    let play : Play = c.index-plays-place.result in
    let inv = c.loop-place.invariant in
    let same = same_lines scene.holes.now.names plays i c.loop-place.before play c.loop-place-test.true c.index-plays-place.is inv.behind c.requires.holes scene.fleet.now views in
    let here = subst (λ (l : List Line). Writes contents headed new (lines_text l)) same c.in_ok-fails.ensures.0 in
    let now : c.in_ok-fails.field-0 ≡ list_any fails (lines i play) = c.in_ok-fails.ensures.1 ∙ ap (list_any fails) same in
    let both = writes_two contents given headed new (head_text several (i + 1)) (lines_text (lines i play)) (piece i play) c.write_head.ensures here refl in
    let steps : length c.steps.result.now ≡ length play.steps.items = ap length c.steps.ensures.value in
    record {
      written = one_more contents c.args.text.now given new piece plays i play c.loop-place-test.true c.index-plays-place.is inv.written both;
      told = told_more (λ place play. list_any fails (lines place play)) plays i play c.loop-place.fails c.in_ok-fails.field-0 c.loop-place-test.true c.index-plays-place.is inv.told now;
      behind = ap (λ n. c.loop-place.before + n) steps ∙ behind_more plays i c.loop-place.before play c.loop-place-test.true c.index-plays-place.is inv.behind;
      small = omega (arith, inv.small, steps, play.sound.few_steps);
    }

pub returns-in_err-fails : goal.returns-in_err-fails
returns-in_err-fails g c =
    let scene = c.args.scene.now in
    let plays = c.args.plays.now in
    let views = views_of scene.vars.now in
    let several : Bool = nat_lt 1 (length plays) in
    let lines : ℕ → Play → List Line = λ place play. lines_of_play scene.fleet.now views (unsure_in (steps_of (take place plays)) play) play in
    let piece : ℕ → Play → List ℕ = λ place play. head_text several (place + 1) ++ lines_text (lines place play) in
    let contents = g.W.Write.contents in
    let given = c.loop-place.text in
    let headed = c.write_head.new.text in
    let new = c.write_play.new.text in
    let i : ℕ = c.loop-place.place in
    let play : Play = c.index-plays-place.result in
    let inv = c.loop-place.invariant in
    let same = same_lines scene.holes.now.names plays i c.loop-place.before play c.loop-place-test.true c.index-plays-place.is inv.behind c.requires.holes scene.fleet.now views in
    let here = subst (λ (l : List Line). WritesFront contents headed new (lines_text l)) same c.in_err-fails.ensures in
    let whole : piece i play ≡ head_text several (i + 1) ++ (lines_text (lines i play) ++ []) = ap (λ l. head_text several (i + 1) ++ l) (sym (append-nil (lines_text (lines i play)))) in
    let both = front_behind contents given headed new (head_text several (i + 1)) (lines_text (lines i play)) [] (piece i play) c.write_head.ensures here whole in
    let front = front_here contents c.args.text.now given new piece plays i play c.loop-place-test.true c.index-plays-place.is inv.written both in
    let text = texts_of_given lines (λ place l. head_text several (place + 1) ++ lines_text l) 0 plays in
    let all = subst (WritesFront contents c.args.text.now new) (sym text) front in
    let p = err_from_is_err_and c.from_residual.result c.from_residual.ensures.1 in rw p.1 all

pub returns : goal.returns
returns g c =
    let scene = c.args.scene.now in
    let plays = c.args.plays.now in
    let views = views_of scene.vars.now in
    let several : Bool = nat_lt 1 (length plays) in
    let lines : ℕ → Play → List Line = λ place play. lines_of_play scene.fleet.now views (unsure_in (steps_of (take place plays)) play) play in
    let piece : ℕ → Play → List ℕ = λ place play. head_text several (place + 1) ++ lines_text (lines place play) in
    let all = take_all c.loop-place.place plays c.loop-place-test.false in
    let text = texts_of_given lines (λ place l. head_text several (place + 1) ++ lines_text l) 0 plays in (
      subst (λ (l : List ℕ). Writes g.W.Write.contents c.args.text.now c.loop-place.text l) (ap (text_by_place piece 0) all ∙ sym text) c.loop-place.invariant.written,
      c.loop-place.invariant.told ∙ ap (told_by (λ place play. list_any fails (lines place play)) 0) all ∙ sym (any_given lines (list_any fails) 0 plays),
    )
