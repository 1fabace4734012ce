use Rattle.std.proofs.Common.{arith}
use Rattle.std.proofs.lemmas.Result.{IfOk-weaker}
use Rattle.journal.specs.Shown.{shown_entry, shown_journal}
use Rattle.journal.proofs.ReadLemmas.{led, none_by_body}
use Rattle.journal.proofs.reading.follow_line.Goals as goal

pub returns-in-Some-2 : goal.returns-in-Some-2
returns-in-Some-2 c =
    IfOk-weaker c.follow.result _ _
    (λ after is. led c.args.fleet.now c.requires.sound (shown_journal c.args.journal) c.requires.kept c.args.line.now (λ k l. omega (arith, c.type_inv.line k)) (omega arith)
    c.in-Some.body.now (shown_entry c.in-Some-2.entry) c.in-Some.ensures (rw c.in-Some-2.is at c.in_ok-entry.ensures) after is)
    c.follow.ensures

pub returns : goal.returns
returns c =
    none_by_body c.args.fleet.now c.requires.sound (shown_journal c.args.journal) c.requires.kept c.args.line.now (λ k l. omega (arith, c.type_inv.line k)) (omega arith)
    c.in-Some.body.now c.in-Some.ensures (rw c.in-None.is at c.in_ok-entry.ensures)
