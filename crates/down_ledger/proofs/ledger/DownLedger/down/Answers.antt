use Rattle.std.proofs.Common.{◌≤◌, subst, arith}
use Rattle.down_ledger.specs.Ledgers.{LedgerView, down_in}
use Rattle.down_ledger.proofs.LedgerLemmas.{few_down}
use Rattle.down_ledger.proofs.ledger.DownLedger.down.Goals as goal

pub overflow_cast-result : goal.overflow_cast-result
overflow_cast-result c =
    let ledger : LedgerView = record { fleet = c.self.inside.fleet.now; down = c.self.inside.marks.items } in
    let few = subst (λ (v : LedgerView). down_in v c.args.group.index ≤ 4096) c.self.view_is (few_down ledger c.self.invariant.sound c.self.invariant.all_marked c.args.group.index) in
    omega (arith, few, c.count.ensures)
