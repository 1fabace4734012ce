use Rattle.plan_check.proofs.LawLemmas.{is_plan, plan_is_fine}
use Rattle.plan_check.proofs.laws.nothing_is_wrong_with_plans.Goals as goal

pub returns : goal.returns
returns c fleet statuses cap batches sound long =
    (λ e. is_plan statuses fleet cap batches sound e, λ plan. plan_is_fine statuses fleet cap batches plan)
