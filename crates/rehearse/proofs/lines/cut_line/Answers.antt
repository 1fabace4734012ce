use Rattle.std.proofs.Common.{◌≡◌, ◌<◌, ◌≤◌, length, arith}
use Rattle.rehearse.proofs.FeedLemmas.{IsCutAt, cut_at, split_there, uncut}
use Rattle.rehearse.proofs.lines.cut_line.Goals as goal

pub returns-in_default-clause-cut : goal.returns-in_default-clause-cut
returns-in_default-clause-cut c = uncut c.args.bytes.now c.in_default.ensures

pub split_at-requires : goal.split_at-requires
split_at-requires c =
    let at : IsCutAt c.in-Some.place c.args.bytes.now = cut_at c.in-Some.place c.args.bytes.now c.in-Some.ensures in
    omega (arith, at.within)

pub split_at-requires-2 : goal.split_at-requires-2
split_at-requires-2 c =
    let at : IsCutAt c.in-Some.place c.args.bytes.now = cut_at c.in-Some.place c.args.bytes.now c.in-Some.ensures in
    omega (arith, at.within, c.split_at.ensures.back_len)

pub returns-clause-cut : goal.returns-clause-cut
returns-clause-cut c =
    let at : IsCutAt c.in-Some.place c.args.bytes.now = cut_at c.in-Some.place c.args.bytes.now c.in-Some.ensures in
    split_there c.in-Some.place c.args.bytes.now c.split_at.result.0.now c.split_at.result.1.now c.split_at-2.result.1.now at c.split_at.ensures.front c.split_at.ensures.back c.split_at-2.ensures.back

pub returns-clause-shorter : goal.returns-clause-shorter
returns-clause-shorter c = omega (arith, c.split_at.ensures.back_len, c.split_at-2.ensures.back_len)
