use Rattle.std.proofs.Common.{arith}
use Rattle.roll_core.proofs.tally.count_one.Goals as goal

pub overflow_add-count : goal.overflow_add-count
overflow_add-count g c =
    omega (arith, c.requires.few, c.audit.ensures.bound, c.args.tally.now.sum)
