use Rattle.std.proofs.Common.{refl}
use Rattle.core_tests.proofs.refused.region.Goals as goal

pub same-shut : goal.same-shut
same-shut c = refl
