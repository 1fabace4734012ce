use Rattle.std.proofs.Common.{refl}
use Rattle.std.specs.Fmt.{digits}
use Rattle.plan_check.proofs.worked.lines_of_names_are_read.Goals as goal

pub returns-clause-mixed : goal.returns-clause-mixed
unfolding digits
returns-clause-mixed c = refl

pub returns-clause-nobody : goal.returns-clause-nobody
unfolding digits
returns-clause-nobody c = refl
