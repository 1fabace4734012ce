use Rattle.text_syntax.proofs.Digits.{percentage_without_sign}
use Rattle.text_syntax.proofs.numerals.percentage_in.Goals as goal

pub returns-in-None-clause-share : goal.returns-in-None-clause-share
unfolding lib.Utf8.encode
returns-in-None-clause-share c = percentage_without_sign c.args.text.now c.in-None.ensures.cases
