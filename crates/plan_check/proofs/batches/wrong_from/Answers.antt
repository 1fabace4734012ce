use Rattle.std.proofs.Common.{[], refl}
use Rattle.plan_check.proofs.batches.wrong_from.Goals as goal

pub loop-place-init : goal.loop-place-init
loop-place-init c = record { len = c.requires.len; so_far = ([], c.requires.none, refl) }
