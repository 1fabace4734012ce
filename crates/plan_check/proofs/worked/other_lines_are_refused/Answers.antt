use Rattle.std.proofs.Common.{refl}
use Rattle.std.specs.Fmt.{digits}
use Rattle.plan_check.proofs.worked.other_lines_are_refused.Goals as goal

pub returns-clause-place : goal.returns-clause-place
unfolding digits
returns-clause-place c = refl

pub returns-clause-noughts : goal.returns-clause-noughts
unfolding digits
returns-clause-noughts c = refl

pub returns-clause-close : goal.returns-clause-close
unfolding digits
returns-clause-close c = refl
