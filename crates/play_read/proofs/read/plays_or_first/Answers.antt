use Rattle.std.proofs.Common.{arith}
use Rattle.play_read.specs.Reads.{AreFaultsOf}
use Rattle.play_read.proofs.Reports.{first_is_true, has_one}
use Rattle.play_read.proofs.read.plays_or_first.Goals as goal

pub returns-in-Ok-clause-ok : goal.returns-in-Ok-clause-ok
returns-in-Ok-clause-ok c = rw c.in-Ok.is at c.in_ok-reading.ensures

pub swap_remove-requires : goal.swap_remove-requires
swap_remove-requires c =
    let are : AreFaultsOf c.args.plays c.args.text.now 1 c.in-Err.told = rw c.in-Err.is at c.in_ok-reading.ensures in
    omega (arith, has_one c.args.plays c.args.text.now c.in-Err.told are, c.in-Err.told.faults.ok)

pub returns-in-Err-clause-err : goal.returns-in-Err-clause-err
returns-in-Err-clause-err c =
    let are : AreFaultsOf c.args.plays c.args.text.now 1 c.in-Err.told = rw c.in-Err.is at c.in_ok-reading.ensures in
    first_is_true c.args.plays c.args.text.now c.in-Err.told are c.swap_remove.result c.swap_remove.ensures.value
