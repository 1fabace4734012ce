use Rattle.std.proofs.Common.{sym}
use Rattle.cond.proofs.Runs.{digits_end}
use Rattle.cond.proofs.Numerals.{number_read, number_unread}
use Rattle.cond.proofs.front.number_at.Goals as goal

pub split_at-requires : goal.split_at-requires
split_at-requires c = rw c.digits.ensures.count (digits_end c.args.text.now c.utf8.text)

pub returns-in-Ok : goal.returns-in-Ok
returns-in-Ok c =
    number_read c.args.text.now c.split_at.result.0.now c.split_at.result.1.now c.digits.result c.parse.result c.digits.ensures.count c.in-Ok.number c.split_at.ensures.front
    c.split_at.ensures.back c.parse.ensures.value.0 c.in-Ok.is

pub returns-in-Err : goal.returns-in-Err
returns-in-Err c =
    sym (number_unread c.args.text.now c.split_at.result.0.now c.split_at.result.1.now c.digits.result c.parse.result c.digits.ensures.count c.in-Err.field-0 c.split_at.ensures.front
    c.parse.ensures.value.0 c.in-Err.is)
