use Rattle.plan_check.proofs.ValidLemmas.{one_check_text}
use Rattle.plan_check.proofs.laws.one_check_text.Goals as goal

pub returns : goal.returns
returns c = one_check_text
