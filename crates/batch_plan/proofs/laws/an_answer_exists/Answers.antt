use Rattle.batch_plan.proofs.ExistLemmas.{an_answer}
use Rattle.batch_plan.proofs.laws.an_answer_exists.Goals as goal

pub returns : goal.returns
returns c = an_answer
