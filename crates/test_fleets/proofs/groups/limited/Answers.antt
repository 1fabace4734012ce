use Rattle.std.proofs.Common.{refl}
use Rattle.test_fleets.proofs.groups.limited.Goals as goal

pub same-limited : goal.same-limited
same-limited c = refl
