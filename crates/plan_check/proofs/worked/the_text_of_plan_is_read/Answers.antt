use Rattle.std.proofs.Common.{refl}
use Rattle.std.specs.Fmt.{digits}
use Rattle.plan_check.proofs.worked.the_text_of_plan_is_read.Goals as goal

pub returns-clause-batches : goal.returns-clause-batches
unfolding digits
returns-clause-batches c = refl

pub returns-clause-good : goal.returns-clause-good
unfolding digits
returns-clause-good c = refl
