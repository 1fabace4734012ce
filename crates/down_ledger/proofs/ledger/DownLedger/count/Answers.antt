use Rattle.std.proofs.Common.{◌<◌, length, sym, ap, ◌∙◌, subst, arith}
use Rattle.down_ledger.specs.Ledgers.{LedgerView, down_in}
use Rattle.down_ledger.proofs.LedgerLemmas.{length-counts, count_read}
use Rattle.down_ledger.proofs.ledger.DownLedger.count.Goals as goal

pub index-requires : goal.index-requires
index-requires c =
    let ledger : LedgerView = record { fleet = c.self.inside.fleet.now; down = c.self.inside.marks.items } in
    let inside : c.args.group.index < length ledger.fleet.groups = subst (λ (v : LedgerView). c.args.group.index < length v.fleet.groups) (sym c.self.view_is) c.requires in
    omega (arith, inside, length-counts ledger c.self.inside.counts.items c.self.invariant, c.self.inside.counts.ok)

pub returns-in-Some : goal.returns-in-Some
returns-in-Some c =
    let ledger : LedgerView = record { fleet = c.self.inside.fleet.now; down = c.self.inside.marks.items } in
    let inside : c.args.group.index < length ledger.fleet.groups = subst (λ (v : LedgerView). c.args.group.index < length v.fleet.groups) (sym c.self.view_is) c.requires in
    let limited = sym c.limit.ensures ∙ c.in-Some.is in
    let read = count_read ledger c.self.inside.counts.items c.self.invariant c.args.group.index c.in-Some._limit c.index.result.now inside limited c.index.ensures in
    read ∙ ap (λ (v : LedgerView). down_in v c.args.group.index) c.self.view_is
