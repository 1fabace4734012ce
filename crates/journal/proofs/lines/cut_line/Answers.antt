use Rattle.std.proofs.Common.{◌≡◌, ◌<◌, length, arith}
use Rattle.std.proofs.lemmas.Bool.Decides.{nat_tests}
use Rattle.std.proofs.lemmas.List.Folds.{list_any_none}
use Rattle.journal.specs.Lines.{is_feed}
use Rattle.journal.proofs.ByteLemmas.{cut_within, none_passes}
use Rattle.journal.proofs.FeedLemmas.{cut_there}
use Rattle.journal.proofs.lines.cut_line.Goals as goal

pub split_at-requires : goal.split_at-requires
split_at-requires c = omega (arith, c.count_line.ensures, cut_within is_feed c.args.bytes.now)

pub returns-then-is_empty-clause-cut : goal.returns-then-is_empty-clause-cut
returns-then-is_empty-clause-cut c =
    let none : length c.split_at.result.1.now ≡ 0 = grind (arith, nat_tests, c.is_empty.ensures, c.if-is_empty.true) in
    list_any_none is_feed c.args.bytes.now (none_passes is_feed c.args.bytes.now (omega (arith, none, c.split_at.ensures.back_len, c.count_line.ensures)))

pub returns-clause-cut : goal.returns-clause-cut
returns-clause-cut c =
    let some : 0 < length c.split_at.result.1.now = grind (arith, nat_tests, c.is_empty.ensures, c.if-is_empty.false) in
    cut_there c.args.bytes.now c.split_at.result.0.now c.split_at.result.1.now c.split_at-2.result.1.now c.count_line.result c.count_line.ensures
    (omega (arith, some, c.split_at.ensures.back_len)) c.split_at.ensures.front c.split_at.ensures.back c.split_at-2.ensures.back
