use Rattle.std.proofs.Common.{◌≡◌, ◌==◌, true, get_or, arith}
use Rattle.text_syntax.proofs.Boundaries.{behind_first}
use Rattle.text_syntax.proofs.runs.behind_dot.Goals as goal

pub split_at-requires : goal.split_at-requires
split_at-requires c =
    let dot : (get_or c.args.text.now 0 0 == 46) ≡ true = cc (c.starts_with.ensures, c.as_bytes.ensures.value, c.if-starts_with.true) in
    behind_first c.args.text.now 46 dot (omega arith) (omega arith) c.utf8.text
