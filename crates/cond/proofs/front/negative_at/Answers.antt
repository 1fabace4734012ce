use Rattle.std.proofs.Common.{sym}
use Rattle.cond.proofs.Runs.{negative_ends}
use Rattle.cond.proofs.Numerals.{negative_read, negative_unread}
use Rattle.cond.proofs.front.negative_at.Goals as goal

pub split_at-requires : goal.split_at-requires
split_at-requires c =
    negative_ends c.args.behind.now c.args.text.now c.digits.result c.utf8.behind c.requires c.digits.ensures.count

pub returns-in-Ok : goal.returns-in-Ok
returns-in-Ok c =
    negative_read c.args.behind.now c.split_at.result.0.now c.split_at.result.1.now c.digits.result c.parse.result c.digits.ensures.count c.args.text.now c.in-Ok.number c.requires
    c.split_at.ensures.front c.split_at.ensures.back c.parse.ensures.value.0 c.in-Ok.is

pub returns-in-Err : goal.returns-in-Err
returns-in-Err c =
    sym (negative_unread c.args.behind.now c.split_at.result.0.now c.split_at.result.1.now c.digits.result c.parse.result c.digits.ensures.count c.args.text.now c.in-Err.field-0 c.requires
    c.split_at.ensures.front c.parse.ensures.value.0 c.in-Err.is)
