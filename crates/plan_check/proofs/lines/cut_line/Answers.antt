use Rattle.std.proofs.Common.{◌≡◌, ◌<◌, length, arith}
use Rattle.std.proofs.lemmas.Bool.Decides.{nat_tests}
use Rattle.plan_check.proofs.ListingLemmas.{line_more, line_within, one_line}
use Rattle.plan_check.proofs.lines.cut_line.Goals as goal

pub split_at-requires : goal.split_at-requires
split_at-requires c = omega (arith, c.count_line.ensures, line_within c.args.text.now)

pub returns-then-is_empty-clause-lines : goal.returns-then-is_empty-clause-lines
returns-then-is_empty-clause-lines c =
    let none : length c.split_at.result.1.now ≡ 0 = grind (arith, nat_tests, c.is_empty.ensures, c.if-is_empty.true) in
    one_line c.args.text.now c.split_at.result.0.now c.count_line.result c.count_line.ensures (omega (arith, none, c.split_at.ensures.back_len)) c.split_at.ensures.front

pub returns-clause-lines : goal.returns-clause-lines
returns-clause-lines c =
    let some : 0 < length c.split_at.result.1.now = grind (arith, nat_tests, c.is_empty.ensures, c.if-is_empty.false) in
    line_more c.args.text.now c.split_at.result.0.now c.split_at.result.1.now c.split_at-2.result.1.now c.count_line.result c.count_line.ensures
    (omega (arith, some, c.split_at.ensures.back_len)) c.split_at.ensures.front c.split_at.ensures.back c.split_at-2.ensures.back
