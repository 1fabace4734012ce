use Rattle.plan_command.proofs.UniqueLemmas.{one_plan_text}
use Rattle.plan_command.proofs.laws.one_plan_text.Goals as goal

pub returns : goal.returns
returns c = one_plan_text
