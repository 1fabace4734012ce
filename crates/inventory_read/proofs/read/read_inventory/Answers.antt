use Rattle.std.proofs.Common.{arith}
use Rattle.inventory_read.specs.ToldFaults.{AreFaultsOf}
use Rattle.inventory_read.proofs.Readings.{first_is_true, has_one}
use Rattle.inventory_read.proofs.read.read_inventory.Goals as goal

pub returns-in-Ok-clause-ok : goal.returns-in-Ok-clause-ok
returns-in-Ok-clause-ok g c = rw c.in-Ok.is at c.in_ok-reading.ensures

pub swap_remove-requires : goal.swap_remove-requires
swap_remove-requires g c =
    let are : AreFaultsOf c.args.text.now 1 c.in-Err.told = rw c.in-Err.is at c.in_ok-reading.ensures in
    omega (arith, has_one c.args.text.now c.in-Err.told are, c.in-Err.told.faults.ok)

pub returns-in-Err-clause-err : goal.returns-in-Err-clause-err
returns-in-Err-clause-err g c =
    let are : AreFaultsOf c.args.text.now 1 c.in-Err.told = rw c.in-Err.is at c.in_ok-reading.ensures in
    first_is_true c.args.text.now c.in-Err.told are c.swap_remove.result c.swap_remove.ensures.value
