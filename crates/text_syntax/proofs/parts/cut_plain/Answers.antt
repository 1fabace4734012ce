use Rattle.std.proofs.Common.{subst, sym, ap, ◌∙◌}
use Rattle.std.specs.Str.{IsCharBoundary}
use Rattle.text_syntax.specs.Words.{plain_length}
use Rattle.text_syntax.proofs.PlainLemmas.{plain_ends}
use Rattle.text_syntax.proofs.parts.cut_plain.Goals as goal

pub split_at-requires : goal.split_at-requires
split_at-requires c =
    let place = c.count_plain.ensures ∙ ap plain_length c.as_bytes.ensures.value in
    subst (IsCharBoundary c.args.word.now) (sym place) (plain_ends c.args.word.now c.utf8.word)
