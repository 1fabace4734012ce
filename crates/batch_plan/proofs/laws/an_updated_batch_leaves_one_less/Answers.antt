use Rattle.batch_plan.proofs.PlanLaws.{answers_one_less, one_batch_less}
use Rattle.batch_plan.proofs.laws.an_updated_batch_leaves_one_less.Goals as goal

pub returns-clause-plan : goal.returns-clause-plan
returns-clause-plan c = one_batch_less

pub returns-clause-answer : goal.returns-clause-answer
returns-clause-answer c = answers_one_less
