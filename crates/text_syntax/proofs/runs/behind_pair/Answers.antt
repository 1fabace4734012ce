use Rattle.std.proofs.Common.{◌≡◌, true}
use Rattle.text_syntax.specs.Words.{starts}
use Rattle.text_syntax.proofs.Boundaries.{behind_two}
use Rattle.text_syntax.proofs.runs.behind_pair.Goals as goal

pub split_at-requires : goal.split_at-requires
split_at-requires c =
    let pair : starts c.args.first c.args.second c.args.text.now ≡ true = cc (c.starts_with_pair.ensures.same, c.as_bytes.ensures.value, c.if-starts_with_pair.true) in
    behind_two c.args.text.now c.args.first c.args.second pair c.requires.second_some c.requires.second_ascii c.utf8.text
