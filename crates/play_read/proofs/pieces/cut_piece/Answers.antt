use Rattle.std.proofs.Common.{ℕ, ◌+◌, ◌<◌, List, [], ◌∷◌, length, drop, sym, ap, ◌∙◌, subst, arith}
use Rattle.std.specs.Str.{IsCharBoundary}
use Rattle.playbook_schema.specs.Commands.{Word, pieces}
use Rattle.play_read.specs.Pieces.{piece_length}
use Rattle.play_read.proofs.FirstPieces.{piece_ends, blank_ends, whole_piece, piece_before}
use Rattle.play_read.proofs.pieces.cut_piece.Goals as goal

pub split_at-requires : goal.split_at-requires
split_at-requires c =
    let place = c.count_piece-length.ensures.number ∙ ap (piece_length 0) c.as_bytes.ensures.value in
    subst (IsCharBoundary c.args.text.now) (sym place) (piece_ends c.args.text.now)

pub split_at-requires-2 : goal.split_at-requires-2
split_at-requires-2 c =
    let place = c.count_piece-length.ensures.number ∙ ap (piece_length 0) c.as_bytes.ensures.value in
    let within : c.count_piece-length.result < length c.args.text.now = omega (arith, c.count_piece-length.ensures.within, c.as_bytes.ensures.len) in
    blank_ends c.args.text.now c.count_piece-length.result place c.utf8.text within

pub returns-then-length-text-clause-pieces : goal.returns-then-length-text-clause-pieces
returns-then-length-text-clause-pieces c =
    let place = c.count_piece-length.ensures.number ∙ ap (piece_length 0) c.as_bytes.ensures.value in
    whole_piece c.args.text.now c.count_piece-length.result place (omega arith) ∙ ap (λ (piece : Word). piece ∷ []) (sym c.split_at.ensures.front)

pub returns-clause-pieces : goal.returns-clause-pieces
returns-clause-pieces c =
    let text = c.args.text.now in
    let count = c.count_piece-length.result in
    let place = c.count_piece-length.ensures.number ∙ ap (piece_length 0) c.as_bytes.ensures.value in
    let within : count < length text = omega (arith, c.count_piece-length.ensures.within, c.as_bytes.ensures.len) in
    piece_before text count place within
    ∙ ap (λ (piece : Word). piece ∷ pieces 0 [] (drop (count + 1) text)) (sym c.split_at.ensures.front)
    ∙ ap (λ (rest : List ℕ). c.split_at.result.0.now ∷ pieces 0 [] rest) (sym c.split_at-2.ensures.back)
