use Rattle.plan_check.proofs.ValidLemmas.{valid_is_of_plans}
use Rattle.plan_check.proofs.laws.valid_is_told_of_plans.Goals as goal

pub returns : goal.returns
returns c = valid_is_of_plans
