use Rattle.std.proofs.Common.{sym, ap, ◌∙◌, arith}
use Rattle.std.specs.List.{list_all}
use Rattle.std.specs.Char.{is_ascii_digit}
use Rattle.text_syntax.proofs.Digits.{number_unread}
use Rattle.text_syntax.proofs.numerals.number_in_digits.Goals as goal

pub returns-in_default-clause-number : goal.returns-in_default-clause-number
returns-in_default-clause-number c =
    number_unread c.args.digits c.args.most c.args.text.now c.parse.result _ (omega arith) c.in_default.is c.parse.ensures.value.0 (ap (list_all is_ascii_digit) (sym c.as_bytes.ensures.value) ∙ sym c.if-not-are_ascii_digits.ensures)
