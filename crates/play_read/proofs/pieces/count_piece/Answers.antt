use Rattle.std.proofs.Common.{◌≡◌, ◌+◌, ◌≤◌, false, length, drop, get_or, sym, ap, ◌∙◌, arith, length-drop}
use Rattle.text_syntax.specs.Words.{is_blank}
use Rattle.playbook_schema.specs.Commands.{hole_behind}
use Rattle.text_syntax.proofs.PlainLemmas.{rest_is}
use Rattle.play_read.proofs.FirstPieces.{length_past}
use Rattle.play_read.proofs.pieces.count_piece.Goals as goal

pub loop-index-preserved : goal.loop-index-preserved
loop-index-preserved c =
    let bytes = c.args.bytes.now in
    let index = c.loop-index.index in
    let more = c.hole_behind.result in
    let other : is_blank (get_or bytes index 0) ≡ false = sym c.is_blank.ensures ∙ c.if-is_blank.false in
    let hole : more ≡ hole_behind (drop index bytes) = c.hole_behind.ensures.number ∙ sym (ap hole_behind (rest_is bytes index)) in
    let within : index + 1 + more ≤ length bytes = omega (arith, ap (λ left. length left) (rest_is bytes index), length-drop index bytes, c.hole_behind.ensures.within, c.loop-index-test.true) in
    let past = length_past bytes index more c.loop-index-test.true other hole within in
    record { so_far = omega (arith, past, c.loop-index.invariant.so_far); within = omega (arith, within) }
