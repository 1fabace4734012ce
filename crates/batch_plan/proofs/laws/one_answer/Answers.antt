use Rattle.batch_plan.proofs.UniqueLemmas.{one_answer}
use Rattle.batch_plan.proofs.laws.one_answer.Goals as goal

pub returns : goal.returns
returns c = one_answer
