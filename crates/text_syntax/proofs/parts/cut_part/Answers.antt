use Rattle.std.proofs.Common.{◌≡◌, true}
use Rattle.text_syntax.specs.Words.{is_opening}
use Rattle.text_syntax.proofs.Boundaries.{behind_opening}
use Rattle.text_syntax.proofs.parts.cut_part.Goals as goal

pub split_at-requires : goal.split_at-requires
split_at-requires c =
    let opens : is_opening c.args.word.now ≡ true = cc (c.is_opening.ensures, c.as_bytes.ensures.value, c.if-not-is_opening.false) in
    behind_opening c.args.word.now opens c.utf8.word
