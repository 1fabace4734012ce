use Rattle.plan_check.proofs.ValidLemmas.{plans_are_valid}
use Rattle.plan_check.proofs.laws.plans_are_told_to_be_valid.Goals as goal

pub returns : goal.returns
returns c = plans_are_valid
