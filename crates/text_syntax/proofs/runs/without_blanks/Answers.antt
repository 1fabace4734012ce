use Rattle.std.proofs.Common.{ap, ◌∙◌, subst, sym}
use Rattle.std.specs.List.{prefix_len}
use Rattle.std.specs.Str.{IsCharBoundary}
use Rattle.text_syntax.specs.Words.{is_blank}
use Rattle.text_syntax.proofs.Boundaries.{run_ends, blank_ascii}
use Rattle.text_syntax.proofs.runs.without_blanks.Goals as goal

pub split_at-requires : goal.split_at-requires
split_at-requires c =
    let place = c.count_blanks.ensures ∙ ap (prefix_len is_blank) c.as_bytes.ensures.value in
    subst (IsCharBoundary c.args.text.now) (sym place) (run_ends is_blank blank_ascii c.args.text.now c.utf8.text)
