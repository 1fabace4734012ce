use Rattle.std.proofs.Common.{◌≡◌, ℕ, ◌+◌, List, length, take, sym, subst, arith}
use Rattle.std.proofs.lemmas.List.{take_all}
use Rattle.bounded_io.specs.Writing.{Writes}
use Rattle.bounded_io.proofs.WritingLemmas.{writes_two}
use Rattle.recap.specs.declared.parts.Recap.{Recap}
use Rattle.recap.specs.RecapText.{numbered_text, recaps_text}
use Rattle.recap.proofs.PlaceLemmas.{text_more}
use Rattle.recap.proofs.writing.write_each_play.Goals as goal

pub loop-place-preserved : goal.loop-place-preserved
loop-place-preserved g c =
    let piece : ℕ → Recap → List ℕ = λ place recap. numbered_text c.args.fleet.now (place + 1) recap in
    let i : ℕ = c.loop-place.place in
    writes_two _ c.args.text.now c.loop-place.text c.write_numbered.new.text _ (piece i c.index-recaps-place.result) _ c.loop-place.invariant c.write_numbered.ensures
    (text_more piece c.args.recaps.now i c.index-recaps-place.result c.loop-place-test.true c.index-recaps-place.is)

pub returns : goal.returns
returns g c =
    let all = take_all c.loop-place.place c.args.recaps.now c.loop-place-test.false in
    subst (λ (l : List Recap). Writes g.W.Write.contents c.args.text.now c.loop-place.text (recaps_text c.args.fleet.now l)) all c.loop-place.invariant
