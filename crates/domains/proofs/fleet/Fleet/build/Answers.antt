use Rattle.std.proofs.Common.{arith}
use Rattle.domains.specs.Faults.{all_faults}
use Rattle.domains.proofs.FaultLemmas.{one_told}
use Rattle.domains.proofs.fleet.Fleet.build.Goals as goal

pub swap_remove-requires : goal.swap_remove-requires
swap_remove-requires g c =
    let told = rw c.in-Err.is at c.in_ok-fleet.ensures.told in
    omega (arith, (one_told (all_faults c.args.tree.now) c.in-Err.told.faults.items told.1 told.0.first).0, c.in-Err.told.faults.ok.0)

pub returns-in-Err-clause-err : goal.returns-in-Err-clause-err
returns-in-Err-clause-err g c =
    let told = rw c.in-Err.is at c.in_ok-fleet.ensures.told in
    (one_told (all_faults c.args.tree.now) c.in-Err.told.faults.items told.1 told.0.first).1 c.swap_remove.result c.swap_remove.ensures.value
