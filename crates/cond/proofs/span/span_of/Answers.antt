use Rattle.std.proofs.Common.{sym}
use Rattle.cond.proofs.Places.{piece_is}
use Rattle.cond.proofs.span.span_of.Goals as goal

pub returns : goal.returns
returns c = λ text e. sym (piece_is text c.args.word.now _ e c.utf8.word)
