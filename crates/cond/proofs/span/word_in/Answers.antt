use Rattle.std.proofs.Common.{sym, subst, ◌∙◌}
use Rattle.std.specs.Str.{IsUtf8}
use Rattle.cond.proofs.Places.{piece_is, no_piece}
use Rattle.cond.proofs.span.word_in.Goals as goal

pub returns-in-Ok : goal.returns-in-Ok
returns-in-Ok c =
    piece_is c.args.text.now c.in-Ok.word.now c.args.span (sym c.bytes_at.ensures ∙ sym c.in-Ok.ensures.cases.0) (subst IsUtf8 (sym c.in-Ok.ensures.cases.0) c.in-Ok.ensures.cases.1)

pub returns-in-Err : goal.returns-in-Err
returns-in-Err c =
    no_piece c.args.text.now c.args.span (λ u. c.in-Err.ensures.cases.0 (subst IsUtf8 (sym c.bytes_at.ensures) u))
