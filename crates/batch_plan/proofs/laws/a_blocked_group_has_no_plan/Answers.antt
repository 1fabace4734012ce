use Rattle.batch_plan.proofs.LeastLemmas.{blocked_none}
use Rattle.batch_plan.proofs.laws.a_blocked_group_has_no_plan.Goals as goal

pub returns : goal.returns
returns c groups statuses cap group within blocked batches plan =
    blocked_none groups statuses cap batches plan group blocked within
